-- What a caller sees by the answer of any call. Assumes nothing.
use mathlib.Core.Path.{◌≡◌, refl, sym, ap, ◌∙◌}
use mathlib.Core.List.{List, [], ◌∷◌}
use Prim.Native.Nat.{ℕ, zero, suc}
use native.Mathlib.Omega.{arith}
use lib.ListN.{get_or}
use borrow.Author.Tests.{ne_eqb}
use Rattle.lent.specs.Refusals.{told, answered}
use Rattle.lent.specs.declared.Refusal.{Refusal}
use Rattle.lent.proofs.Refusals.{number_positive}

-- an answer that begins with 0 is no refusal,
pub accepted : (v : ℕ) (a b : List ℕ) → 0 ∷ a ≡ answered v b → v ≡ 0
accepted zero a b e = refl
accepted (suc n) a b e =
    let q : 0 ∷ a ≡ suc n ∷ [] = rw (ne_eqb (suc n) 0 (λ z. omega arith)) at e in
    let z : 0 ≡ suc n = ap (λ (l : List ℕ). get_or l 0 0) q in
    absurd (omega arith)

-- and no refusal begins with 0
pub refused : (v : ℕ) (r : Refusal) (b : List ℕ) → told r ≡ answered v (0 ∷ b) → v ≡ 0 → ⊥
refused v r b e z =
    let (n, f) = number_positive r in
    let q : told r ≡ 0 ∷ b = rw z at e in
    let d : 0 ≡ suc n = sym (ap (λ (l : List ℕ). get_or l 0 0) q) ∙ f in
    omega arith
