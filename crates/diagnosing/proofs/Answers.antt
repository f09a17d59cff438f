-- What `diagnose_path` answers, by each way through the code. Assumes nothing.
use mathlib.Core.Path.{◌≡◌, ap}
use mathlib.Core.List.{List}
use Prim.Native.Nat.{ℕ, ◌-◌}
use borrow.Author.Tests.{ne_eqb}
use Rattle.std.specs.Prelude.{Ok, Err}
use Rattle.lent.specs.declared.Refusal.{Refusal}
use Rattle.lent.specs.Refusals.{number_of, told}
use Rattle.selector.specs.declared.SelectorMismatch.TheVariants.{EmptySelectorWithNonEmptyPath}
use Rattle.selector.specs.Checks.{path_verdict}
use Rattle.selector.specs.Matching.{hit_at, far_at}
use Rattle.selector.specs.Diagnosing.{Diagnosis, Fits, judge, diagnose, diagnosis_told, diagnosis_of}
use Rattle.matching.proofs.Answers.{more, refused, told_is}

module _ (steps : List ℕ) (n : ℕ) (combinators : List ℕ) (c : ℕ) (path : List ℕ) (m : ℕ) where
  pub diagnosis_refused : (r : Refusal) → number_of r ≡ path_verdict steps n combinators c path m → told r ≡ diagnosis_of steps n combinators c path m
  unfolding diagnosis_of
  diagnosis_refused r e = refused steps n combinators c path m r e _

  module _ (e : 0 ≡ path_verdict steps n combinators c path m) where
    pub diagnosis_none : n ≡ 0 → m ≡ 0 → diagnosis_told (Ok Fits) ≡ diagnosis_of steps n combinators c path m
    unfolding diagnosis_of diagnose
    diagnosis_none s p = rw (told_is steps n combinators c path m e, s, p)

    pub diagnosis_left : n ≡ 0 → (m ≡ 0 → ⊥) → diagnosis_told (Ok (Err EmptySelectorWithNonEmptyPath)) ≡ diagnosis_of steps n combinators c path m
    unfolding diagnosis_of diagnose
    diagnosis_left s p = rw (told_is steps n combinators c path m e, s, ne_eqb m 0 p)

    module _ (some : n ≡ 0 → ⊥) where
      diagnose_some : diagnose steps n combinators path m ≡ judge (hit_at steps path) (far_at combinators) m (n - 1) 0 0
      unfolding diagnose
      diagnose_some = ap (λ (k : ℕ). diagnose steps k combinators path m) (more n some)

      pub diagnosis_found : (d : Diagnosis) → d ≡ judge (hit_at steps path) (far_at combinators) m (n - 1) 0 0 → diagnosis_told (Ok d) ≡ diagnosis_of steps n combinators c path m
      unfolding diagnosis_of
      diagnosis_found d f = rw (told_is steps n combinators c path m e, diagnose_some, f)

pub ruleset answers = (diagnosis_refused, diagnosis_none, diagnosis_left, diagnosis_found)
