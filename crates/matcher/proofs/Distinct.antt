-- Equal numbers told are equal answers, so that the contracts determine the answer. Assumes nothing.
use mathlib.Core.Path.{◌≡◌, refl, sym, ◌∙◌}
use mathlib.Core.List.{List}
use Prim.Native.Nat.{ℕ}
use lib.ListN.{get_or}
use denote.Ref.{Bor}
use Rattle.std.specs.Prelude.{Result}
use Rattle.lent.specs.declared.Refusal.{Refusal}
use Rattle.lent.proofs.Refusals.{answer_distinct}
use Rattle.table.specs.Tables.{Table}
use Rattle.matcher.specs.Answers.{listing_told, Part, Rules}

pub listing_distinct : (a b : Result (ℕ × ℕ) Refusal) → listing_told a ≡ listing_told b → a ≡ b
listing_distinct = answer_distinct _ (λ l. (get_or l 0 0, get_or l 1 0)) (λ p. refl)

-- ---- THEOREM: any two answers that a call's contract allows are equal

pub part_determined : {w : List ℕ} {t : Table} {number stamp : ℕ} {r r' : Result (ℕ × ℕ) Refusal} → Part w t number stamp r → Part w t number stamp r' → r ≡ r'
part_determined {r = r} {r' = r'} p q = listing_distinct r r' (p.answer ∙ sym q.answer)

-- the same numbers at the same place
pub rules_determined : {w : List ℕ} {t : Table} {number stamp : ℕ} {whole part part' : Bor (List ℕ)}
    → Rules w t number stamp whole part → Rules w t number stamp whole part' → (part.now ≡ part'.now) × (part.ref_ptr ≡ part'.ref_ptr)
rules_determined p q = (p.numbers ∙ sym q.numbers, λ i. ((p.block ∙ sym q.block) i, (p.place ∙ sym q.place) i))
