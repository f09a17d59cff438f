-- What a caller sees by the answer of entering, and that equal numbers told are equal answers. Assumes nothing.
use mathlib.Core.Path.{◌≡◌, refl, sym, ap, ◌∙◌}
use mathlib.Core.List.{List, [], ◌∷◌}
use Prim.Native.Nat.{ℕ}
use lib.ListN.{get_or}
use borrow.Author.Tests.{ne_eqb}
use Rattle.lent.specs.declared.Refusal.{Refusal}
use Rattle.std.specs.Prelude.{Result, Ok, Err}
use Rattle.lent.proofs.Refusals.{answer_distinct}
use Rattle.table.specs.Tables.{Table}
use Rattle.table.specs.Entering.{child_of, entered}
use Rattle.table.specs.Calls.{enter_verdict}
use Rattle.matcher.specs.declared.MatchState.{MatchState}
use Rattle.lent.proofs.Answers.{accepted, refused}
use Rattle.entering.specs.Answers.{entering_told, Enter}

module _ {w : List ℕ} {t : Table} {number stamp : ℕ} {row : List ℕ} {t' : Table} where
  -- where the answer is `Ok`, the verdict is 0, the state is the child, and the memory is the entered one;
  pub entered_is : {s : MatchState} → Enter w t number stamp row (Ok s) t'
      → (enter_verdict w t number stamp row ≡ 0) × (s.number ≡ child_of w t number row) × (s.stamp ≡ stamp) × (t' ≡ entered w t number row)
  entered_is {s} u =
      let z = accepted (enter_verdict w t number stamp row) (s.number ∷ s.stamp ∷ []) _ u.answer in
      let q : 0 ∷ s.number ∷ s.stamp ∷ [] ≡ 0 ∷ child_of w t number row ∷ stamp ∷ [] = rw z at u.answer in
      (z, ap (λ (l : List ℕ). get_or l 1 0) q, ap (λ (l : List ℕ). get_or l 2 0) q, rw z at u.memory)

  -- where it is a refusal, no word has changed
  pub enter_refused_is : {r : Refusal} → Enter w t number stamp row (Err r) t' → t' ≡ t
  enter_refused_is {r} u =
      let v = enter_verdict w t number stamp row in
      let n = refused v r _ u.answer in
      rw (ne_eqb v 0 n) at u.memory

-- ---- equal numbers told are equal answers

pub entering_distinct : (a b : Result MatchState Refusal) → entering_told a ≡ entering_told b → a ≡ b
entering_distinct = answer_distinct _ (λ l. record { number = get_or l 0 0; stamp = get_or l 1 0 }) (λ s. refl)

-- ---- THEOREM: any two outcomes that the contract allows are equal, answer and memory

pub enter_determined : {w : List ℕ} {t : Table} {number stamp : ℕ} {row : List ℕ} {r r' : Result MatchState Refusal} {u u' : Table}
    → Enter w t number stamp row r u → Enter w t number stamp row r' u' → (r ≡ r') × (u ≡ u')
enter_determined {r = r} {r' = r'} p q = (entering_distinct r r' (p.answer ∙ sym q.answer), p.memory ∙ sym q.memory)
