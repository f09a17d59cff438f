-- The library's order of two lists, as a number. Assumes nothing.
use mathlib.Core.Path.{◌≡◌, refl, sym, ap, ◌∙◌}
use mathlib.Core.List.{List, [], ◌∷◌}
use mathlib.Core.Logic.{⊎_elim}
use Prim.Native.Nat.{ℕ}
use native.Mathlib.Omega.{arith}
use lib.IntN.{ℤ, pos, negsuc}
use Rattle.std.specs.declared.cmp.Ordering.{Ordering}
use Rattle.std.specs.declared.cmp.Ordering.TheVariants.{Less, Equal, Greater}
use Rattle.std.specs.Ordering.{nat_cmp}
use Rattle.std.specs.Cmp.{nat_cmp_is}
use Rattle.std.specs.Cmp.Lexicographic.{slice_cmp}
use Rattle.theory.specs.Lists.{compare}
use Rattle.theory.proofs.Lists.{le_or_lt}
use Rattle.theory.proofs.Compare.{compare_less, compare_more, compare_same}

abbrev pub sign : Ordering → ℤ
sign Less = negsuc 0
sign Equal = pos 0
sign Greater = pos 1

pub sign_is : (a b : List ℕ) → sign (slice_cmp nat_cmp a b) ≡ compare a b
unfolding compare
sign_is [] [] = refl
sign_is [] (y ∷ b) = refl
sign_is (x ∷ a) [] = refl
sign_is (x ∷ a) (y ∷ b) =
    ⊎_elim
    (λ p. ⊎_elim
    (λ q. let e : x ≡ y = omega arith in rw (← nat_cmp_is x y Equal e, compare_same x y a b e) (sign_is a b))
    (λ q. rw (← nat_cmp_is x y Less q, compare_less x y a b q))
    (le_or_lt y x))
    (λ p. rw (← nat_cmp_is x y Greater p, compare_more x y a b p))
    (le_or_lt x y)

module _ (a b : List ℕ) (r : Ordering) (e : r ≡ slice_cmp nat_cmp a b) where
  pub compare_before : r ≡ Less → negsuc 0 ≡ compare a b
  compare_before q = ap sign (sym q ∙ e) ∙ sign_is a b

  pub compare_alike : r ≡ Equal → pos 0 ≡ compare a b
  compare_alike q = ap sign (sym q ∙ e) ∙ sign_is a b

  pub compare_after : r ≡ Greater → pos 1 ≡ compare a b
  compare_after q = ap sign (sym q ∙ e) ∙ sign_is a b

pub ruleset comparing = (compare_before, compare_alike, compare_after)
