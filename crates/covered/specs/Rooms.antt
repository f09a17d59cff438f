-- The states that a table holds, room for those of a path, and what its enterings answer and leave. Assumes nothing.
use Rattle.std.specs.Prelude.{◌≡◌, Bool, true, false, ◌||◌, cond, List, [], ◌∷◌, ◌++◌, ℕ, ◌+◌, ◌*◌, ◌≤◌, length}
use Rattle.theory.specs.Sizes
use Rattle.theory.specs.Lists.{spread}
use Rattle.theory.specs.States.{State, Sheet, root, enter}
use Rattle.selector.specs.Tags.{Tags, step_matches}
use Rattle.selector.specs.Checks.{tags_ascend}
use Rattle.typed.specs.declared.SelectorInputs.{SelectorInputs}
use Rattle.typed.specs.Typed.{inputs_tags, inputs_row}
use Rattle.table.specs.Tables.{Table, selectors_of, states_in, state_at}
use Rattle.table.specs.Entering.{same_state, entered, child_of}
use Rattle.table.specs.Calls.{enter_verdict}

-- ---- the states that a table holds

-- 01, "How much each contract says": "an invented list length or state count breaks demand 2, each being the length of a defined list". By number
abbrev pub held_in : Table → List State
held_in t = spread (state_at t) 0 (states_in t.head)

unfoldable pub holds : List State → State → Bool
holds [] s = false
holds (a ∷ held) s = same_state a s || holds held s

-- with s, unless it is held already
abbrev pub including : List State → State → List State
including held s = cond (holds held s) held (held ++ s ∷ [])

-- ---- the states that a path needs

-- the path goes on from s: what is held, and each new state in order of first entry
unfoldable pub held_along : Sheet Tags → List State → State → List Tags → List State
held_along sheet held s [] = held
held_along sheet held s (x ∷ path) = held_along sheet (including held (enter step_matches sheet s x)) (enter step_matches sheet s x) path

-- the root, and each state along the path
abbrev pub states_for : List ℕ → List Tags → List State
states_for w path = held_along (selectors_of w) (root (selectors_of w) ∷ []) (root (selectors_of w)) path

-- how many numbers one of the two lists has in all
abbrev pub numbers_of : (State → List ℕ) → List State → ℕ
numbers_of f [] = 0
numbers_of f (s ∷ held) = length (f s) + numbers_of f held

-- room for all of these states
pub record Enough (all : List State) (t : Table) : Type 0 where
  pub few : length all ≤ Sizes.STATES
  pub states : 3 * length all ≤ length t.states
  pub cursors : numbers_of (λ s. s.cursors) all ≤ length t.cursors
  pub matched : numbers_of (λ s. s.matched) all ≤ length t.matched

-- Rooms that suffice, from the sheet and the path
abbrev pub Roomy : List ℕ → List Tags → Table → Type 0
Roomy w path t = Enough (states_for w path) t

-- a subject that refusals 2 and 1 let pass
pub record Proper (x : SelectorInputs) : Type 0 where
  pub classes : x.class_count ≤ Sizes.SUBJECT-IDS
  pub pseudos : x.pseudo_count ≤ Sizes.SUBJECT-IDS
  pub rise : tags_ascend (inputs_tags x) ≡ true

-- ---- what entering subject after subject answers, each under the child before: the refusals, 0 for none

unfoldable pub verdicts_along : List ℕ → Table → ℕ → ℕ → List SelectorInputs → List ℕ
verdicts_along w t number stamp [] = []
verdicts_along w t number stamp (x ∷ path) =
    enter_verdict w t number stamp (inputs_row x) ∷ verdicts_along w (entered w t number (inputs_row x)) (child_of w t number (inputs_row x)) stamp path

-- the table after all of them, and the last child
unfoldable pub table_along : List ℕ → Table → ℕ → List SelectorInputs → Table
table_along w t number [] = t
table_along w t number (x ∷ path) = table_along w (entered w t number (inputs_row x)) (child_of w t number (inputs_row x)) path

unfoldable pub number_along : List ℕ → Table → ℕ → List SelectorInputs → ℕ
number_along w t number [] = number
number_along w t number (x ∷ path) = number_along w (entered w t number (inputs_row x)) (child_of w t number (inputs_row x)) path
