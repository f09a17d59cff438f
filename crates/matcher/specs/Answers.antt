-- What the calls on a table's states answer. Assumes nothing.
use Rattle.std.specs.Prelude.{◌≡◌, cond, List, [], ◌∷◌, ℕ, ◌+◌, ◌*◌, eqb, Result}
use Rattle.std.specs.Borrow.{Bor}
use Rattle.lent.specs.Pool.{start_of}
use Rattle.lent.specs.declared.Refusal.{Refusal}
use Rattle.lent.specs.Refusals.{answered, answer_told}
use Rattle.table.specs.Tables.{Table, matched_ends, matched_at}
use Rattle.table.specs.Calls.{state_verdict}

-- ---- the answer as numbers: 0 and what is told, or a refusal's own number

abbrev pub listing_told : Result (ℕ × ℕ) Refusal → List ℕ
listing_told r = answer_told (λ p. p.0 ∷ p.1 ∷ []) r

-- ---- a state's matched rules

-- where they stand in the buffer: from, up to
pub record Part (w : List ℕ) (t : Table) (number stamp : ℕ) (r : Result (ℕ × ℕ) Refusal) : Type 0 where
  pub answer : listing_told r ≡ answered (state_verdict w t number stamp) (0 ∷ start_of (matched_ends t.states) number ∷ matched_ends t.states number ∷ [])

-- "handed back as the part of the lent buffer that holds it"; nothing, at the buffer's own place, where the state is refused.
-- `whole` is the buffer `t.matched` as it was lent. A place is a block of memory and the bytes up to it there; a word has four
pub record Rules (w : List ℕ) (t : Table) (number stamp : ℕ) (whole part : Bor (List ℕ)) : Type 0 where
  pub numbers : part.now ≡ cond (eqb (state_verdict w t number stamp) 0) (matched_at t.states t.matched number) []
  pub block : part.ref_ptr.0 ≡ whole.ref_ptr.0
  pub place : part.ref_ptr.1 ≡ whole.ref_ptr.1 + 4 * cond (eqb (state_verdict w t number stamp) 0) (start_of (matched_ends t.states) number) 0
