-- What `matches_path` answers, by each way through the code, and what the refusals of both calls come to. Assumes nothing.
use mathlib.Core.Path.{◌≡◌, refl, sym, ap, ◌∙◌}
use mathlib.Core.Bool.{Bool, true, false}
use mathlib.Core.List.{List, [], ◌∷◌}
use mathlib.Core.Logic.{⊎_elim}
use Prim.Native.Nat.{ℕ, suc, ◌-◌, ◌≤◌, ◌<◌}
use native.Mathlib.Omega.{arith}
use lib.Dec.{eqb}
use borrow.Author.Tests.{not-false}
use Rattle.theory.proofs.Lists.{le_or_lt}
use Rattle.lent.specs.declared.Refusal.{Refusal}
use Rattle.lent.specs.Refusals.{number_of, told, one_if, answered}
use Rattle.lent.proofs.Refusals.{first_clear, refused_first, accepted_first}
use Rattle.lent.proofs.All.{all_at}
use Rattle.selector.specs.Rows.{subject_at}
use Rattle.selector.specs.Checks.{selector_over, path_over, combinators_off, codes_over, tags_ascend, subjects_off, path_verdict}
use Rattle.selector.specs.Matching.{fits_from, hit_at, far_at, fits, matching_of}
use Rattle.selector.proofs.CheckLaws.{over_steps, places_few}

-- a place whose row's ids ascend, where no subject is off
pub row_sorted : (path : List ℕ) (m i : ℕ) → i < m → subjects_off path m ≡ false → tags_ascend (subject_at path i) ≡ true
unfolding subjects_off
row_sorted path m i h e = all_at (λ j. tags_ascend (subject_at path j)) m i h (not-false _ e)

pub more : (n : ℕ) → (n ≡ 0 → ⊥) → n ≡ suc (n - 1)
more n some = omega arith

-- ---- the verdict

module _ (steps : List ℕ) (n : ℕ) (combinators : List ℕ) (c : ℕ) (path : List ℕ) (m : ℕ) where
  -- what a call that is not refused keeps to
  pub record Accepted : Type 0 where
    pub steps_few : n ≤ 8
    pub places_few : m ≤ 32
    pub sorted : subjects_off path m ≡ false

  pub refused : (r : Refusal) → number_of r ≡ path_verdict steps n combinators c path m → (l : List ℕ) → told r ≡ answered (path_verdict steps n combinators c path m) l
  unfolding path_verdict
  refused r e l = refused_first _ r l refl e

  pub matching_refused : (r : Refusal) → number_of r ≡ path_verdict steps n combinators c path m → told r ≡ matching_of steps n combinators c path m
  unfolding matching_of
  matching_refused r e = refused r e _

  module _ (e : 0 ≡ path_verdict steps n combinators c path m) where
    pub accepted : Accepted
    unfolding path_verdict
    accepted =
        let (a, r) = first_clear 2 (selector_over steps n combinators c) _ (omega arith) (sym e) in
        let (b, s) = first_clear 2 (path_over path m) _ (omega arith) r in
        let (d, t) = first_clear 3 (combinators_off n c) _ (omega arith) s in
        let (f, u) = first_clear 6 (codes_over combinators c) _ (omega arith) t in
        record {
          steps_few = ⊎_elim (λ h. h) (λ h. absurd (let z : true ≡ false = over_steps steps n combinators c h ∙ a in let y : ◌≡◌ {A = ℕ} 0 1 = cc in omega arith)) (le_or_lt n 8);
          places_few = places_few path m _ refl b;
          sorted = (first_clear 1 (subjects_off path m) [] (omega arith) u).0;
        }

    pub told_is : (l : List ℕ) → answered (path_verdict steps n combinators c path m) l ≡ l
    told_is l = sym (accepted_first _ l e)

    pub matching_none : n ≡ 0 → 0 ∷ one_if (eqb m 0) ∷ [] ≡ matching_of steps n combinators c path m
    unfolding matching_of fits
    matching_none s = rw (told_is, s)

    pub matching_some : (n ≡ 0 → ⊥) → (b : Bool) → b ≡ fits_from (hit_at steps path) (far_at combinators) m (n - 1) 0 0 → 0 ∷ one_if b ∷ [] ≡ matching_of steps n combinators c path m
    unfolding matching_of
    matching_some some b f =
        let g : fits steps n combinators path m ≡ fits_from (hit_at steps path) (far_at combinators) m (n - 1) 0 0 =
        ap (λ (k : ℕ). fits steps k combinators path m) (more n some) ∙ (unfold fits in refl) in
        rw (told_is, g, ← f)

pub ruleset answers = (matching_refused, accepted, matching_none, matching_some)
