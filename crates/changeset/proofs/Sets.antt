-- What the change sets are: ascending, each id once, and the ids that were given. Assumes nothing.
use mathlib.Core.Path.{◌≡◌, refl}
use mathlib.Core.Logic.Iff
use mathlib.Core.Logic.{◌⊎◌, inl, inr, ◌↔◌}
use mathlib.Core.List.{List, [], ◌∷◌, ◌++◌}
use Prim.Native.Nat.{ℕ}
use native.Mathlib.Nat.{zero-add}
use native.Mathlib.Omega.{arith}
use lib.ListN.{length, take}
use lib.Seq.{sets-eq, take_at}
use borrow.Author.Tests.{ltb-false}
use Rattle.theory.specs.Lists.{◌∈◌, Ascending}
use Rattle.theory.proofs.Lists.{append_in, sort_in, sort_ascending}
use Rattle.std.specs.Prelude.{Result, Ok}
use Rattle.lent.specs.declared.Refusal.{Refusal}
use Rattle.lent.proofs.Refusals.{first_clear}
use Rattle.changeset.specs.Sets.{Lists, too_short, set_of, union_of, set_verdict}
use Rattle.changeset.proofs.Distinct.{changing_distinct}

-- ---- THEOREM: "sorted and made unique"

pub set_is : (ids : List ℕ) (n : ℕ) → Ascending (set_of ids n) × ((c : ℕ) → (c ∈ set_of ids n) ↔ (c ∈ take n ids))
set_is ids n = (sort_ascending (take n ids), sort_in (take n ids))

pub union_is : (a : List ℕ) (n : ℕ) (b : List ℕ) (m : ℕ)
    → Ascending (union_of a n b m) × ((c : ℕ) → (c ∈ union_of a n b m) ↔ ((c ∈ take n a) ⊎ (c ∈ take m b)))
union_is a n b m = (sort_ascending (take n a ++ take m b), λ c. Iff.trans (sort_in (take n a ++ take m b) c) (append_in (take n a) (take m b) c))

-- ---- THEOREM: an accepted call leaves its set in the buffer, as many ids as it answers,

pub set_stands : (ids : List ℕ) (n : ℕ) (out : List ℕ) {r : Result ℕ Refusal} {after : List ℕ} → set_verdict ids n out ≡ 0
    → Lists (set_verdict ids n out) (set_of ids n) out r after → (r ≡ Ok (length (set_of ids n))) × (take (length (set_of ids n)) after ≡ set_of ids n)
unfolding set_verdict
set_stands ids n out {r} z s =
    let l = set_of ids n in
    let room = ltb-false (length out) (length l) (first_clear 8 _ [] (omega arith) (first_clear 2 _ (too_short l out ∷ []) (omega arith) z).1).0 in
    (changing_distinct r (Ok (length l)) (rw z at s.answer), rw (rw z at s.memory, sets-eq l out 0 (rw zero-add room)) (take_at l _ (length l) refl))

-- ---- and the union of two such buffers lists the ids that were given for either

pub union_of_sets : (x : List ℕ) (i : ℕ) (y : List ℕ) (j : ℕ) (a : List ℕ) (n : ℕ) (b : List ℕ) (m : ℕ) → take n a ≡ set_of x i → take m b ≡ set_of y j
    → (c : ℕ) → (c ∈ union_of a n b m) ↔ ((c ∈ take i x) ⊎ (c ∈ take j y))
union_of_sets x i y j a n b m e f c = Iff.trans ((union_is a n b m).1 c) (rw (e, f) (
  λ h. elim h [ inl k ↦ inl (((set_is x i).1 c).0 k) | inr k ↦ inr (((set_is y j).1 c).0 k) ],
  λ h. elim h [ inl k ↦ inl (((set_is x i).1 c).1 k) | inr k ↦ inr (((set_is y j).1 c).1 k) ],
))
