-- Matching and diagnosis agree: the diagnosis is `Fits` exactly if the selector fits. Assumes nothing.
use mathlib.Core.Path.{◌≡◌, refl, sym, ap, ◌∙◌}
use mathlib.Core.Bool.{Bool, true, false, cond}
use mathlib.Core.List.{List}
use mathlib.Core.Logic.{◌↔◌}
use Prim.Native.Nat.{ℕ, zero, suc, ◌+◌, ◌-◌, ◌≤◌, ◌<◌}
use native.Mathlib.Numerals.{add-one}
use native.Mathlib.Omega.{arith}
use lib.Dec.{ltb, eqb}
use borrow.Author.Tests.{eq-eqb, ne_eqb, ltb-true, ltb-false}
use Rattle.theory.specs.Lists.{spread}
use Rattle.std.specs.Prelude.{Ok, Err}
use Rattle.selector.specs.declared.SelectorMismatch.TheVariants.{EmptySelectorWithNonEmptyPath, TrailingSubjects, MissingDescendant}
use Rattle.selector.specs.Matching.{fits_from, any_from, hit_at, far_at, fits}
use Rattle.selector.specs.Diagnosing.{Diagnosis, Fits, is_fit, is_mismatch, some_fit, other_errors, last_or, tried, judge, diagnose}
use Rattle.diagnosing.proofs.Judging.{tried_one}

is_fit_lem : (d : Diagnosis) → is_fit d ≡ true → d ≡ Fits
is_fit_lem (Ok u) e = refl
is_fit_lem (Err r) e = cc

-- a test in both: what a branch comes to may use how the test came out
both : (b : Bool) (x y : Diagnosis) (u v : Bool) → (b ≡ true → is_fit x ≡ u) → (b ≡ false → is_fit y ≡ v) → is_fit (cond b x y) ≡ cond b u v
both true x y u v p q = p refl
both false x y u v p q = q refl

unfit : (b : Bool) (x y : Diagnosis) → is_fit x ≡ false → is_fit y ≡ false → is_fit (cond b x y) ≡ false
unfit true x y p q = p
unfit false x y p q = q

-- one of the later places fits, or none does
tries : (f : ℕ → Diagnosis) (g : ℕ → Bool) → ((j : ℕ) → is_fit (f j) ≡ g j) → (n from : ℕ) (last : Diagnosis) → is_fit last ≡ false → is_fit (tried last (spread f from n)) ≡ any_from g n from
unfolding tried some_fit other_errors last_or any_from
tries f g e zero from last l = l
tries f g e (suc n) from last l =
    ap is_fit (tried_one last (f from) (spread f (suc from) n))
    ∙ both (is_fit (f from)) Fits _ true (any_from g n (suc from)) (λ _. refl)
    (λ no. tries f g e n (suc from) _ (unfit (is_mismatch (f from)) last (f from) l no))
    ∙ ap (λ (b : Bool). cond b true (any_from g n (suc from))) (e from)
    ∙ rw add-one

module _ (hit : ℕ → ℕ → Bool) (far : ℕ → Bool) (m : ℕ) where
  ends : (k i : ℕ) → i < m → is_fit (cond (ltb (i + 1) m) (Err (TrailingSubjects (k + 1) (i + 1))) Fits) ≡ eqb (i + 1) m
  ends k i l = by (ltb (i + 1) m) refl
    where
      by : (b : Bool) → ltb (i + 1) m ≡ b → is_fit (cond b (Err (TrailingSubjects (k + 1) (i + 1))) Fits) ≡ eqb (i + 1) m
      by true e = sym (ne_eqb (i + 1) m (let h : i + 1 < m = ltb-true _ _ e in omega arith))
      by false e = sym (eq-eqb (i + 1) m (let h : m ≤ i + 1 = ltb-false _ _ e in omega arith))

  agrees : (after k i : ℕ) → is_fit (judge hit far m after k i) ≡ fits_from hit far m after k i
  unfolding judge fits_from
  agrees zero k i = both (ltb i m) _ _ _ _ (λ l. both (hit k i) _ _ _ _ (λ _. ends k i (ltb-true _ _ l)) (λ _. refl)) (λ _. refl)
  agrees (suc after) k i =
      both (ltb i m) _ _ _ _
      (λ _. both (hit k i) _ _ _ _
      (λ _. both (far k) _ _ _ _
      (λ _. tries (λ j. judge hit far m after (k + 1) j) (λ j. fits_from hit far m after (k + 1) j) (λ j. agrees after (k + 1) j) (m - (i + 1)) (i + 1) (Err (MissingDescendant (k + 1) (i + 1))) refl)
      (λ _. agrees after (k + 1) (i + 1)))
      (λ _. refl))
      (λ _. refl)

same : (steps : List ℕ) (n : ℕ) (combinators path : List ℕ) (m : ℕ) → is_fit (diagnose steps n combinators path m) ≡ fits steps n combinators path m
unfolding diagnose fits
same steps zero combinators path m = empty (eqb m 0)
  where
    empty : (b : Bool) → is_fit (cond b Fits (Err EmptySelectorWithNonEmptyPath)) ≡ b
    empty true = refl
    empty false = refl
same steps (suc n) combinators path m = agrees (hit_at steps path) (far_at combinators) m n 0 0

pub diagnosis_fits : (steps : List ℕ) (n : ℕ) (combinators path : List ℕ) (m : ℕ) → (diagnose steps n combinators path m ≡ Fits) ↔ (fits steps n combinators path m ≡ true)
diagnosis_fits steps n combinators path m =
    let e = same steps n combinators path m in
    (λ d. sym e ∙ ap is_fit d, λ h. is_fit_lem _ (e ∙ h))
