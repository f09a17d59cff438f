-- Calls on a table, by their contracts alone: what each answered and the memory that it left. Assumes nothing.
use Rattle.std.specs.Prelude.{◌≡◌, List, [], ◌∷◌, ◌++◌, ℕ, length, Result, Ok, Err}
use Rattle.lent.specs.declared.Refusal.{Refusal}
use Rattle.selector.specs.Tags.{Tags}
use Rattle.typed.specs.declared.SelectorInputs.{SelectorInputs}
use Rattle.typed.specs.Typed.{inputs_tags, inputs_row}
use Rattle.table.specs.Tables.{Table}
use Rattle.matcher.specs.declared.MatchState.{MatchState}
use Rattle.building.specs.Answers.{Build}
use Rattle.entering.specs.Answers.{Enter}

module _ (w : List ℕ) (ranking : ℕ) where
  -- Demand 3: "a table built of it and written only by accepted calls, in any order", and of that table "a state reached by a path" from the root since the last
  -- build: the memory now, the state's number and stamp as they were answered, and the path. `w` is the words of the sheet, the same at every call
  pub data Called : Table → ℕ → ℕ → List Tags → Type 0 where
    -- `build` answers Ok: the root, of number 0. The head is an array of eight words
    built : {t t' : Table} {stamp : ℕ} → length t.head ≡ 8 → Build w stamp ranking t (Ok tt) t' → Called t' 0 stamp []
    -- `enter_subject` under this state answers another, one subject further
    entered : {t t' : Table} {number stamp : ℕ} {path : List Tags} {s : MatchState} → Called t number stamp path
        → (x : SelectorInputs) → Enter w t number stamp (inputs_row x) (Ok s) t'
        → Called t' s.number s.stamp (path ++ inputs_tags x ∷ [])
    -- any other entering in between, accepted or not
    later : {t t' : Table} {number stamp number' stamp' : ℕ} {path : List Tags} {r : Result MatchState Refusal} → Called t number stamp path
        → (x : SelectorInputs) → Enter w t number' stamp' (inputs_row x) r t'
        → Called t' number stamp path
    -- refused calls, of whatever sheet v
    not_built : {t t' : Table} {number stamp : ℕ} {path : List Tags} {v : List ℕ} {stamp' ranking' : ℕ} {y : Refusal} → Called t number stamp path
        → Build v stamp' ranking' t (Err y) t'
        → Called t' number stamp path
    not_entered : {t t' : Table} {number stamp : ℕ} {path : List Tags} {v row : List ℕ} {number' stamp' : ℕ} {y : Refusal} → Called t number stamp path
        → Enter v t number' stamp' row (Err y) t'
        → Called t' number stamp path
