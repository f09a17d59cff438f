-- What the answers promise together. Assumes nothing.
use mathlib.Core.Path.{◌≡◌, ap}
use mathlib.Core.Logic.{◌↔◌}
use mathlib.Core.Bool.{Bool, true}
use mathlib.Core.List.{List}
use Prim.Native.Nat.{ℕ, zero, suc}
use native.Mathlib.Omega.{arith}
use borrow.Author.Tests.{ne_eqb}
use Rattle.lent.specs.Refusals.{answered}
use Rattle.std.specs.Prelude.{Result, Ok, Err}
use Rattle.selector.specs.Checks.{path_verdict}
use Rattle.selector.specs.Matching.{fits, matching_told, matching_of}
use Rattle.selector.specs.Diagnosing.{Diagnosis, Fits, diagnose, diagnosis_told, diagnosis_of}
use Rattle.selector.proofs.Distinct.{matching_distinct, diagnosis_distinct}
use Rattle.diagnosing.proofs.Agree.{diagnosis_fits}

abbrev ok_is : {A E : Type 0} → A → Result A E → A
ok_is a (Ok x) = x
ok_is a (Err e) = a

alike : (v : ℕ) (d : Diagnosis) (b : Bool) → (d ≡ Fits) ↔ (b ≡ true)
    → (answered v (diagnosis_told (Ok d)) ≡ diagnosis_told (Ok Fits)) ↔ (answered v (matching_told (Ok b)) ≡ matching_told (Ok true))
alike zero d b i = (
  λ e. ap (λ (t : Bool). matching_told (Ok t)) (i.0 (ap (ok_is Fits) (diagnosis_distinct (Ok d) (Ok Fits) e))),
  λ e. ap (λ (f : Diagnosis). diagnosis_told (Ok f)) (i.1 (ap (ok_is true) (matching_distinct (Ok b) (Ok true) e))),
)
alike (suc v) d b i =
    rw (ne_eqb (suc v) 0 (λ h. omega arith))
    (λ e. absurd (let z : suc v ≡ 0 = cc in omega arith), λ e. absurd (let z : suc v ≡ 0 = cc in omega arith))

-- Diagnosis answers a fit exactly if matching answers yes, whatever is given
pub answers_agree : (steps : List ℕ) (n : ℕ) (combinators : List ℕ) (c : ℕ) (path : List ℕ) (m : ℕ)
    → (diagnosis_of steps n combinators c path m ≡ diagnosis_told (Ok Fits)) ↔ (matching_of steps n combinators c path m ≡ matching_told (Ok true))
unfolding diagnosis_of matching_of
answers_agree steps n combinators c path m =
    alike (path_verdict steps n combinators c path m) (diagnose steps n combinators path m) (fits steps n combinators path m) (diagnosis_fits steps n combinators path m)
