-- Equal numbers told are equal answers, so that the contracts determine answer and memory. Assumes nothing.
use mathlib.Core.Path.{◌≡◌, sym, ◌∙◌}
use mathlib.Core.Bool.{Bool}
use mathlib.Core.List.{List}
use Prim.Native.Nat.{ℕ}
use Rattle.std.specs.Prelude.{Result}
use Rattle.lent.specs.declared.Refusal.{Refusal}
use Rattle.lent.proofs.Refusals.{number_distinct, yes_distinct}
use Rattle.changeset.specs.Sets.{changing_told, emptiness_told, Lists}

pub changing_distinct : (a b : Result ℕ Refusal) → changing_told a ≡ changing_told b → a ≡ b
changing_distinct = number_distinct

pub emptiness_distinct : (a b : Result Bool Refusal) → emptiness_told a ≡ emptiness_told b → a ≡ b
emptiness_distinct = yes_distinct

-- ---- THEOREM: any two outcomes that a call's contract allows are equal, answer and memory

pub lists_determined : {verdict : ℕ} {list before : List ℕ} {r r' : Result ℕ Refusal} {u u' : List ℕ}
    → Lists verdict list before r u → Lists verdict list before r' u' → (r ≡ r') × (u ≡ u')
lists_determined {r = r} {r' = r'} p q = (changing_distinct r r' (p.answer ∙ sym q.answer), p.memory ∙ sym q.memory)
