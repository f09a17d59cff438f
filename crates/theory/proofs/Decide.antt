-- Whether a selector with steps fits a tail of a path, as a test. Assumes nothing.
use mathlib.Core.Path.{◌≡◌, refl}
use mathlib.Core.Logic.{◌⊎◌, inl, inr, ◌↔◌}
use mathlib.Core.Bool.{Bool, true, false, ◌&&◌, ◌||◌}
use mathlib.Core.List.{List, [], ◌∷◌}
use Prim.Native.Nat.{ℕ, ◌<◌}
use native.Mathlib.Omega.{arith}
use lib.ListN.{length}
use lib.Dec.{T}
use Rattle.theory.specs.Paths.{Comb, child, descendant, Selector, Goes, done, here, skip, FitsTail}
use Rattle.theory.specs.States.{descends}
use Rattle.theory.specs.Tails.{free, goes, fits_tail}
use Rattle.theory.proofs.Paths.{tail_is}

pub and_T : (a b : Bool) → T (a && b) ↔ (T a × T b)
and_T true b = (λ h. (tt, h), λ h. h.1)
and_T false b = (λ h. absurd h, λ h. h.0)

or_T : (a b : Bool) → T (a || b) ↔ (T a ⊎ T b)
or_T true b = (λ h. inl tt, λ h. tt)
or_T false b = (λ h. inr h, elim [ inl h ↦ absurd h | inr h ↦ h ])

pub descends_T : (c : Comb) → T (descends c) ↔ (c ≡ descendant)
descends_T child = (λ h. absurd h, λ h. absurd (let z : ◌≡◌ {A = ℕ} 0 1 = cc in omega arith))
descends_T descendant = (λ h. refl, λ h. tt)

module _ {Step Subject : Type 0} (ok : Step → Subject → Bool) where
  goes_to : {sel : Selector Step} {path : List Subject} → Goes ok sel path → T (goes ok sel path)
  goes_to done = tt
  goes_to (here {p = p} {sel = sel} {x = x} {path = path} o g) =
      (or_T (ok p.step x && goes ok sel path) (descends p.comb && goes ok (p ∷ sel) path)).1 (inl ((and_T (ok p.step x) (goes ok sel path)).1 (o, goes_to g)))
  goes_to (skip {p = p} {sel = sel} {x = x} {path = path} e g) =
      (or_T (ok p.step x && goes ok sel path) (descends p.comb && goes ok (p ∷ sel) path)).1 (inr ((and_T (descends p.comb) (goes ok (p ∷ sel) path)).1 ((descends_T p.comb).1 e, goes_to g)))

  goes_from : (sel : Selector Step) (path : List Subject) → T (goes ok sel path) → Goes ok sel path
  goes_from [] [] t = done
  goes_from [] (x ∷ path) t = absurd t
  goes_from (p ∷ sel) [] t = absurd t
  goes_from (p ∷ sel) (x ∷ path) t = elim ((or_T (ok p.step x && goes ok sel path) (descends p.comb && goes ok (p ∷ sel) path)).0 t) [
    | inl h ↦ let (o, g) = (and_T (ok p.step x) (goes ok sel path)).0 h in here o (goes_from sel path g)
    | inr h ↦ let (e, g) = (and_T (descends p.comb) (goes ok (p ∷ sel) path)).0 h in skip ((descends_T p.comb).0 e) (goes_from (p ∷ sel) path g)
  ]

  -- The test passes exactly if the selector has steps and fits a tail of the path
  pub fits_tail_T : (sel : Selector Step) (path : List Subject) → T (fits_tail ok sel path) ↔ ((0 < length sel) × FitsTail ok sel path)
  fits_tail_T [] path = (λ t. absurd t, λ h. absurd (omega arith))
  fits_tail_T (p ∷ sel) path = (λ t. (omega arith, (tail_is ok p sel path).1 (goes_from (free p ∷ sel) path t)), λ h. goes_to ((tail_is ok p sel path).0 h.1))
