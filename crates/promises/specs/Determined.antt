-- 01, "How much each contract says": "Every public function has a contract that determines its answer and lent memory afterwards, refused calls too: show any
-- two allowed outcomes equal". Assumes nothing.
use Rattle.std.specs.Prelude.{◌≡◌, Bool, true, not, ◌&&◌, List, [], ◌∷◌, ℕ, eqb}
use Rattle.std.specs.Borrow.{Bor}
use Rattle.lent.specs.Refusals.{Check}

-- Any two outcomes that a contract allows are equal. An outcome is the answer and, of a call that is lent memory to write, each such piece at exit
abbrev pub Determined : {A : Type 0} → (A → Type 0) → Type 0
Determined {A} Allowed = (a b : A) → Allowed a → Allowed b → a ≡ b

-- Of an answer that is a part of a lent slice: its numbers, and its place in memory. (A `Bor` has no other part)
abbrev pub DeterminedPart : (Bor (List ℕ) → Type 0) → Type 0
DeterminedPart Allowed = (a b : Bor (List ℕ)) → Allowed a → Allowed b → (a.now ≡ b.now) × (a.ref_ptr ≡ b.ref_ptr)

-- Of a check's answer: none of its tests has the number 10, the one that comes with an offset
abbrev pub plain : List Check → Bool
plain [] = true
plain (c ∷ l) = not (eqb c.number 10) && plain l
