-- The library's order of two numbers is that of two lists that hold one each. Assumes nothing.
use mathlib.Core.Path.{◌≡◌, refl, ◌∙◌}
use mathlib.Core.List.{[], ◌∷◌}
use Prim.Native.Nat.{ℕ}
use Rattle.std.specs.declared.cmp.Ordering.{Ordering}
use Rattle.std.specs.declared.cmp.Ordering.TheVariants.{Less, Equal, Greater}
use Rattle.std.specs.Ordering.{nat_cmp, ordering_then}
use Rattle.std.specs.Cmp.Lexicographic.{slice_cmp}

then_equal : (r : Ordering) → r ≡ ordering_then r Equal
then_equal Less = refl
then_equal Equal = refl
then_equal Greater = refl

pub of_one_each : (a b : ℕ) (r : Ordering) → r ≡ nat_cmp a b → r ≡ slice_cmp nat_cmp (a ∷ []) (b ∷ [])
of_one_each a b r e = e ∙ then_equal (nat_cmp a b)
