-- Whether a selector fits a path, as a function: 01, "Paths". Assumes nothing.
use Rattle.std.specs.Prelude.{Bool, true, false, cond, List, ℕ, zero, suc, ◌+◌, ◌-◌, get_or, ltb, eqb, Result, Ok}
use Rattle.theory.specs.States.{descends}
use Rattle.lent.specs.declared.Refusal.{Refusal}
use Rattle.lent.specs.Refusals.{answered, yes_told}
use Rattle.selector.specs.Tags.{step_matches}
use Rattle.selector.specs.Rows.{step_at, subject_at, comb_of}
use Rattle.selector.specs.Checks.{path_verdict}

-- f at `from` or at one of the n - 1 places after it
unfoldable pub any_from : (ℕ → Bool) → ℕ → ℕ → Bool
any_from f zero from = false
any_from f (suc n) from = cond (f from) true (any_from f n (from + 1))

-- `hit k i`: step k matches at place i; `far k`: a descendant combinator follows step k; m: the number of places
module _ (hit : ℕ → ℕ → Bool) (far : ℕ → Bool) (m : ℕ) where
  -- the step k at place i, with `after` steps after it, fit to the end of the path
  unfoldable pub fits_from : ℕ → ℕ → ℕ → Bool
  fits_from zero k i = cond (ltb i m) (cond (hit k i) (eqb (i + 1) m) false) false
  fits_from (suc after) k i =
      cond (ltb i m)
      (cond (hit k i)
      (cond (far k) (any_from (λ j. fits_from after (k + 1) j) (m - (i + 1)) (i + 1)) (fits_from after (k + 1) (i + 1)))
      false)
      false

abbrev pub hit_at : List ℕ → List ℕ → ℕ → ℕ → Bool
hit_at steps path k i = step_matches (step_at steps k) (subject_at path i)

abbrev pub far_at : List ℕ → ℕ → Bool
far_at combinators k = descends (comb_of (get_or combinators k 0))

-- "The empty selector fits only the empty path."
unfoldable pub fits : List ℕ → ℕ → List ℕ → List ℕ → ℕ → Bool
fits steps zero combinators path m = eqb m 0
fits steps (suc n) combinators path m = fits_from (hit_at steps path) (far_at combinators) m n 0 0

-- The answer as numbers: 0 and then 1 for yes or 0 for no; a refusal's own number
abbrev pub matching_told : Result Bool Refusal → List ℕ
matching_told r = yes_told r

unfoldable pub matching_of : List ℕ → ℕ → List ℕ → ℕ → List ℕ → ℕ → List ℕ
matching_of steps n combinators c path m =
    answered (path_verdict steps n combinators c path m) (matching_told (Ok (fits steps n combinators path m)))
