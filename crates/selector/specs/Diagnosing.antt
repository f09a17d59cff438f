-- The diagnosis of a selector on a path: 01, "Paths". Assumes nothing.
use Rattle.std.specs.Prelude.{◌≡◌, refl, Bool, true, false, cond, ◌||◌, List, [], ◌∷◌, ℕ, zero, suc, ◌+◌, ◌-◌, ltb, eqb, Result, Ok, Err, ⊤}
use Rattle.theory.specs.Lists.{spread}
use Rattle.lent.specs.declared.Refusal.{Refusal}
use Rattle.lent.specs.Refusals.{answered, answer_told}
use Rattle.selector.specs.declared.SelectorMismatch.{SelectorMismatch}
use Rattle.selector.specs.declared.SelectorMismatch.TheVariants.{EmptySelectorWithNonEmptyPath, MissingSubject, StepMismatch, TrailingSubjects, MissingDescendant}
use Rattle.selector.specs.Matching.{hit_at, far_at}
use Rattle.selector.specs.Checks.{path_verdict}

-- What is found of a path: that the selector fits, or why it does not
abbrev pub Diagnosis : Type 0
Diagnosis = Result ⊤ SelectorMismatch

abbrev pub Fits : Diagnosis
Fits = Ok tt

abbrev pub is_fit : Diagnosis → Bool
is_fit (Ok u) = true
is_fit (Err e) = false

abbrev pub is_mismatch : Diagnosis → Bool
is_mismatch (Ok u) = false
is_mismatch (Err EmptySelectorWithNonEmptyPath) = false
is_mismatch (Err (MissingSubject k i)) = false
is_mismatch (Err (StepMismatch k i)) = true
is_mismatch (Err (TrailingSubjects n i)) = false
is_mismatch (Err (MissingDescendant k i)) = false

-- one of the list is a fit
unfoldable pub some_fit : List Diagnosis → Bool
some_fit [] = false
some_fit (d ∷ l) = is_fit d || some_fit l

-- the list without its mismatches
unfoldable pub other_errors : List Diagnosis → List Diagnosis
other_errors [] = []
other_errors (d ∷ l) = cond (is_mismatch d) (other_errors l) (d ∷ other_errors l)

-- the last of the list, `none` if it is empty
unfoldable pub last_or : Diagnosis → List Diagnosis → Diagnosis
last_or none [] = none
last_or none (d ∷ l) = last_or d l

-- What comes of the later places, given what each of them gives, in order: "a fit ends it; a StepMismatch from however deep is dropped; of the other
-- errors the last is given; with none, .."
unfoldable pub tried : Diagnosis → List Diagnosis → Diagnosis
tried none l = cond (some_fit l) Fits (last_or none (other_errors l))

-- `hit k i`: step k matches at place i; `far k`: a descendant combinator follows step k; m: the number of places
module _ (hit : ℕ → ℕ → Bool) (far : ℕ → Bool) (m : ℕ) where
  -- "No subject: MissingSubject with both numbers. No match: StepMismatch with both."
  abbrev pub at_place : ℕ → ℕ → Diagnosis → Diagnosis
  at_place k i matched = cond (ltb i m) (cond (hit k i) matched (Err (StepMismatch k i))) (Err (MissingSubject k i))

  -- Step k at place i, with `after` steps after it. "Last step, subjects left: TrailingSubjects with the number of steps and the place after. Child goes
  -- on at the next place. Descendant tries each later place in order: ..; with none, MissingDescendant with the next step and the place after this one."
  unfoldable pub judge : ℕ → ℕ → ℕ → Diagnosis
  judge zero k i = at_place k i (cond (ltb (i + 1) m) (Err (TrailingSubjects (k + 1) (i + 1))) Fits)
  judge (suc after) k i =
      at_place k i
      (cond (far k)
      (tried (Err (MissingDescendant (k + 1) (i + 1))) (spread (λ j. judge after (k + 1) j) (i + 1) (m - (i + 1))))
      (judge after (k + 1) (i + 1)))

-- "no steps and a path that isn't empty, EmptySelectorWithNonEmptyPath. Otherwise start at step 0, place 0."
unfoldable pub diagnose : List ℕ → ℕ → List ℕ → List ℕ → ℕ → Diagnosis
diagnose steps zero combinators path m = cond (eqb m 0) Fits (Err EmptySelectorWithNonEmptyPath)
diagnose steps (suc n) combinators path m = judge (hit_at steps path) (far_at combinators) m n 0 0

-- The case and its values, in 01's order
abbrev pub case_numbers : Diagnosis → List ℕ
case_numbers (Ok u) = 0 ∷ []
case_numbers (Err EmptySelectorWithNonEmptyPath) = 1 ∷ []
case_numbers (Err (MissingSubject k i)) = 2 ∷ k ∷ i ∷ []
case_numbers (Err (StepMismatch k i)) = 3 ∷ k ∷ i ∷ []
case_numbers (Err (TrailingSubjects n i)) = 4 ∷ n ∷ i ∷ []
case_numbers (Err (MissingDescendant k i)) = 5 ∷ k ∷ i ∷ []

-- The answer as numbers: 0 and those; a refusal's own number
abbrev pub diagnosis_told : Result Diagnosis Refusal → List ℕ
diagnosis_told r = answer_told case_numbers r

unfoldable pub diagnosis_of : List ℕ → ℕ → List ℕ → ℕ → List ℕ → ℕ → List ℕ
diagnosis_of steps n combinators c path m =
    answered (path_verdict steps n combinators c path m) (diagnosis_told (Ok (diagnose steps n combinators path m)))

-- ---- for example: three places give two errors and a StepMismatch; it is dropped, and of the errors the last is given

last_error :
    tried (Err (MissingDescendant 1 1)) (Err (MissingSubject 1 1) ∷ Err (TrailingSubjects 2 2) ∷ Err (StepMismatch 1 0) ∷ []) ≡ Err (TrailingSubjects 2 2)
unfolding tried some_fit other_errors last_or
last_error = refl
