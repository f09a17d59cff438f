-- A state as the cores that find and write one are lent it. For contracts within and cores alone. Assumes nothing.
use Rattle.std.specs.Prelude.{List, ℕ}
use Rattle.theory.specs.States.{State}

-- a state's two lists
abbrev pub state : List ℕ → List ℕ → State
state cursors matched = record { cursors = cursors; matched = matched }
