-- Laws of the test whether two lists are the same. Assumes nothing.
use mathlib.Core.Path.{◌≡◌, refl}
use mathlib.Core.Bool.{true}
use mathlib.Core.Logic.{inl, inr, ◌↔◌}
use mathlib.Core.List.{List, [], ◌∷◌}
use Prim.Native.Nat.{ℕ, suc}
use native.Mathlib.Omega.{arith}
use lib.ListN.{length}
use lib.IntN.{ℤ}
use lib.Dec.{eqb}
use mir.Syntax.{w32}
use mir.Val.{of_z}
use borrow.Author.Tests.{ne_eqb}
use Rattle.theory.specs.Lists.{compare}
use Rattle.theory.proofs.Compare.{compare_longer, compare_refl, compare_zero, compare_cases}
use Rattle.theory.proofs.Keys.{zero_is}
use Rattle.table.specs.Shape.{same}

pub same_is : (a b : List ℕ) → (same a b ≡ true) ↔ (a ≡ b)
same_is a b = (λ e. compare_zero a b ((zero_is (compare a b)).0 e), λ e. rw (e, compare_refl b))

-- by the answer of `compare`, as a word
pub same_told : (a b : List ℕ) (z : ℤ) → z ≡ compare a b → eqb (of_z w32 z) 0 ≡ same a b
same_told a b z e = rw e (elim (compare_cases a b) [ inl h ↦ rw h | inr (inl h) ↦ rw h | inr (inr h) ↦ rw h ])

-- and by the length, where the other is empty
pub same_none : (l : List ℕ) → eqb (length l) 0 ≡ same l []
same_none [] = unfold compare in refl
same_none (a ∷ l) = rw (compare_longer a l, ne_eqb (suc (length l)) 0 (omega arith))
