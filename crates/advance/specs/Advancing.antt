-- The two lists that entering makes, collected: 01, "States". For contracts within and cores alone. Assumes nothing.
use mathlib.Core.List.{List, ◌++◌, flat_map}
use Rattle.std.specs.Prelude.{ℕ, ◌+◌, ◌≤◌, length}
use Rattle.theory.specs.Lists.{sort}
use Rattle.theory.specs.States.{leaves_of, lists_of}
use Rattle.idset.specs.Buffers.{Holds}
use Rattle.selector.specs.Tags.{Tags, step_matches}
use Rattle.table.specs.Tables.{selectors_of}

-- What one cursor leaves at x, and what it lists
abbrev pub leaves : List ℕ → Tags → ℕ → List ℕ
leaves w x c = leaves_of step_matches (selectors_of w) x c

abbrev pub lists : List ℕ → Tags → ℕ → List ℕ
lists w x c = lists_of step_matches (selectors_of w) x c

-- "Entering tests all cursors of the parent and of the root. .. Both lists are sorted and made unique."
pub record Advanced (w parent top : List ℕ) (x : Tags) (next listed : List ℕ) (cursors matched : ℕ) (next' listed' : List ℕ) : Type 0 where
  pub cursors_held_lem : Holds (sort (flat_map (leaves w x) (parent ++ top))) next cursors next'
  pub matched_held_lem : Holds (sort (flat_map (lists w x) (parent ++ top))) listed matched listed'

-- Both lists, and two words more: what a cursor leaves is put without asking for its room
pub record Room (w parent top : List ℕ) (x : Tags) (next listed : List ℕ) : Type 0 where
  pub cursors : length (sort (flat_map (leaves w x) (parent ++ top))) + 2 ≤ length next
  pub matched : length (sort (flat_map (lists w x) (parent ++ top))) + 2 ≤ length listed
