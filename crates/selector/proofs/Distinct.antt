-- Two answers that tell the same numbers are the same: what a contract says of an answer's numbers determines the answer. Assumes nothing.
use mathlib.Core.Path.{◌≡◌, refl}
use mathlib.Core.Bool.{Bool}
use mathlib.Core.List.{List, [], ◌∷◌}
use Prim.Native.Nat.{ℕ}
use lib.ListN.{get_or}
use Rattle.std.specs.Prelude.{Result, Ok, Err}
use Rattle.lent.specs.declared.Refusal.{Refusal}
use Rattle.lent.proofs.Refusals.{answer_distinct, yes_distinct}
use Rattle.selector.specs.declared.SelectorMismatch.TheVariants.{EmptySelectorWithNonEmptyPath, MissingSubject, StepMismatch, TrailingSubjects, MissingDescendant}
use Rattle.selector.specs.declared.Specificity.{Specificity}
use Rattle.selector.specs.Matching.{matching_told}
use Rattle.selector.specs.Diagnosing.{Diagnosis, Fits, case_numbers, diagnosis_told}
use Rattle.selector.specs.Weighing.{weighing_told}

pub matching_distinct : (a b : Result Bool Refusal) → matching_told a ≡ matching_told b → a ≡ b
matching_distinct = yes_distinct

cases : ℕ → ℕ → List Diagnosis
cases k i =
    Fits
    ∷ Err EmptySelectorWithNonEmptyPath
    ∷ Err (MissingSubject k i)
    ∷ Err (StepMismatch k i)
    ∷ Err (TrailingSubjects k i)
    ∷ Err (MissingDescendant k i)
    ∷ []

read_case : List ℕ → Diagnosis
read_case l = get_or (cases (get_or l 1 0) (get_or l 2 0)) (get_or l 0 0) Fits

read_case_lem : (d : Diagnosis) → read_case (case_numbers d) ≡ d
unfolding read_case cases
read_case_lem (Ok u) = refl
read_case_lem (Err EmptySelectorWithNonEmptyPath) = refl
read_case_lem (Err (MissingSubject k i)) = refl
read_case_lem (Err (StepMismatch k i)) = refl
read_case_lem (Err (TrailingSubjects n i)) = refl
read_case_lem (Err (MissingDescendant k i)) = refl

pub diagnosis_distinct : (a b : Result Diagnosis Refusal) → diagnosis_told a ≡ diagnosis_told b → a ≡ b
diagnosis_distinct = answer_distinct case_numbers read_case read_case_lem

pub weighing_distinct : (a b : Result Specificity Refusal) → weighing_told a ≡ weighing_told b → a ≡ b
weighing_distinct = answer_distinct _ (λ l. record { 0 = get_or l 0 0; 1 = get_or l 1 0; 2 = get_or l 2 0; 3 = get_or l 3 0 }) (λ w. refl)
