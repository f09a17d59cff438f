-- 01's `walk` example: its sheet, its subjects, the room it takes, and what its calls answer. Assumes nothing.
use Rattle.std.proofs.Math.Option.{none, some}
use Rattle.std.specs.Prelude.{Result, Ok, Some, None, List, [], ◌∷◌, map, ℕ, ◌≤◌, length}
use Rattle.lent.specs.declared.Refusal.{Refusal}
use Rattle.theory.specs.Paths.{Comb, child, descendant, Part}
use Rattle.theory.specs.States.{Sheet, State, run}
use Rattle.selector.specs.Tags.{Tags, step_matches}
use Rattle.typed.specs.declared.SelectorInputs.{SelectorInputs}
use Rattle.typed.specs.Typed.{tagged}
use Rattle.style.specs.Entries.{Entry}
use Rattle.sheet.specs.Sheets
use Rattle.table.specs.Tables.{Table}
use Rattle.matcher.specs.declared.MatchState.{MatchState}

-- a subject that has a type alone; a step that asks for it
abbrev pub typed : ℕ → Tags
typed n = record { type = some n; part = none; classes = []; pseudos = [] }

abbrev pub step : Comb → ℕ → Part Tags
step c n = record { comb = c; step = typed n }

-- the subject as the calls are given it
abbrev pub subject : ℕ → SelectorInputs
subject n = tagged (Some (record { 0 = n })) None

abbrev pub entry : ℕ → ℕ → ℕ → Entry
entry property kind number = record { property = property; kind = kind; number = number }

-- "direct 0 with entry 1, 0, 10; group 0; rule with step type 5 and entry 1, 0, 20; rule with step type 1, descendant step type 5 and entries 1, 0, 30 and
-- 2, 0, 40": "Each pushed style or group .. takes one source index"
abbrev pub walk_sheet : Sheets.Sheet
walk_sheet = record {
  next = 2;
  styles = record { origin = 0; source = 0; entries = entry 1 0 10 ∷ [] } ∷ [];
  rules = record { origin = 0; source = 1; order = 0; selector = step child 5 ∷ []; entries = entry 1 0 20 ∷ [] }
      ∷ record { origin = 0; source = 1; order = 1; selector = step child 1 ∷ step descendant 5 ∷ []; entries = entry 1 0 30 ∷ entry 2 0 40 ∷ [] }
      ∷ [];
}

-- its selectors, by rule number
abbrev pub walk : Sheet Tags
walk = map (λ (r : Sheets.Rule). r.selector) walk_sheet.rules

-- cursors and rules after a path
abbrev pub after : List Tags → State
after path = run step_matches walk path

-- room for four states, their cursors and matched numbers
pub record Lent (t : Table) : Type 0 where
  pub rows : 12 ≤ length t.states
  pub cursors : 4 ≤ length t.cursors
  pub matched : 3 ≤ length t.matched

-- an entering that answers this state
abbrev pub state : ℕ → ℕ → Result MatchState Refusal
state number stamp = Ok (record { number = number; stamp = stamp })
