-- What entering answers, and the memory with it. Assumes nothing.
use Rattle.std.specs.Prelude.{◌≡◌, true, cond, List, [], ◌∷◌, ◌++◌, ℕ, eqb, Result, Option, Some, None}
use Rattle.theory.specs.Lists.{ascends}
use Rattle.lent.specs.declared.Refusal.{Refusal}
use Rattle.lent.specs.Refusals.{answered, answer_told, first_of}
use Rattle.matcher.specs.declared.MatchState.{MatchState}
use Rattle.table.specs.Tables.{Table, cursors_at}
use Rattle.table.specs.Shape.{root_cursors}
use Rattle.table.specs.Entering.{lacks_room, child_of, entered}
use Rattle.table.specs.Calls.{state_checks, subject_checks, enter_verdict}

-- the answer as numbers: 0 and the state, or a refusal's own number
abbrev pub entering_told : Result MatchState Refusal → List ℕ
entering_told r = answer_told (λ s. s.number ∷ s.stamp ∷ []) r

-- answer and memory; a refused call changes no word. The child has its parent's stamp
pub record Enter (w : List ℕ) (t : Table) (number stamp : ℕ) (row : List ℕ) (r : Result MatchState Refusal) (t' : Table) : Type 0 where
  pub answer : entering_told r ≡ answered (enter_verdict w t number stamp row) (0 ∷ child_of w t number row ∷ stamp ∷ [])
  pub memory : t' ≡ cond (eqb (enter_verdict w t number stamp row) 0) (entered w t number row) t

-- ---- for contracts within and cores alone: entering without the first four refusals, and these alone

-- what working out the next state relies on: the root's cursors are those of build, and the parent's and the root's ascend
pub record Parents (w states cursors : List ℕ) (parent : ℕ) : Type 0 where
  pub root : root_cursors w states cursors ≡ true
  pub parent_up : ascends (cursors_at states cursors parent) ≡ true
  pub root_up : ascends (cursors_at states cursors 0) ≡ true

pub record Enters (w : List ℕ) (t : Table) (parent : ℕ) (row : List ℕ) (r : Option ℕ) (t' : Table) : Type 0 where
  pub answer : r ≡ cond (lacks_room w t parent row) None (Some (child_of w t parent row))
  pub memory : t' ≡ cond (lacks_room w t parent row) t (entered w t parent row)

unfoldable pub front_verdict : List ℕ → Table → ℕ → ℕ → List ℕ → ℕ
front_verdict w t number stamp row = first_of (state_checks w t number stamp ++ subject_checks row)
