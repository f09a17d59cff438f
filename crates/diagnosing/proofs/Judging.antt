-- A law for each way through diagnosis, with n steps in all. Assumes nothing.
use mathlib.Core.Path.{◌≡◌, refl, sym, ap, ◌∙◌}
use mathlib.Core.Bool.{Bool, true, false, not, cond}
use mathlib.Core.List.{List, ◌∷◌}
use Prim.Native.Nat.{ℕ, zero, suc, ◌+◌, ◌-◌, ◌≤◌, ◌<◌}
use native.Mathlib.Numerals.{add-one}
use borrow.Author.Tests.{lt-ltb, le-ltb}
use Rattle.theory.specs.Lists.{spread}
use Rattle.std.specs.Prelude.{Ok, Err}
use Rattle.selector.specs.declared.SelectorMismatch.{SelectorMismatch}
use Rattle.selector.specs.declared.SelectorMismatch.TheVariants.{EmptySelectorWithNonEmptyPath, MissingSubject, StepMismatch, TrailingSubjects, MissingDescendant}
use Rattle.selector.specs.Diagnosing.{Diagnosis, Fits, judge, is_fit, is_mismatch, some_fit, other_errors, last_or, tried}
use Rattle.matching.proofs.Ways.{none_left, one_left, missed, matched}

module _ (hit : ℕ → ℕ → Bool) (m k i : ℕ) where
  pub judge_missing : (far : ℕ → Bool) (after : ℕ) → m ≤ i → Err (MissingSubject k i) ≡ judge hit far m after k i
  unfolding judge
  judge_missing far zero h = simp (le-ltb i m h)
  judge_missing far (suc after) h = simp (le-ltb i m h)

  module _ (h : i < m) (b : Bool) (e : b ≡ hit k i) where
    pub judge_mismatch : (far : ℕ → Bool) (after : ℕ) → not b ≡ true → Err (StepMismatch k i) ≡ judge hit far m after k i
    unfolding judge
    judge_mismatch far zero t = simp (lt-ltb i m h, missed b _ e t)
    judge_mismatch far (suc after) t = simp (lt-ltb i m h, missed b _ e t)

    module _ (t : not b ≡ false) (n : ℕ) where
      -- the last step
      module _ (l : n ≤ k + 1) (far : ℕ → Bool) where
        pub judge_trailing : i + 1 < m → Err (TrailingSubjects (k + 1) (i + 1)) ≡ judge hit far m (n - (k + 1)) k i
        unfolding judge
        judge_trailing g = rw (none_left n (k + 1) l) (simp (lt-ltb i m h, matched b _ e t, lt-ltb (i + 1) m g))

        pub judge_fits : m ≤ i + 1 → Fits ≡ judge hit far m (n - (k + 1)) k i
        unfolding judge
        judge_fits g = rw (none_left n (k + 1) l) (simp (lt-ltb i m h, matched b _ e t, le-ltb (i + 1) m g))

      -- a step with more after it
      module _ (l : k + 1 < n) (far : ℕ → Bool) (f : Bool) (c : f ≡ far k) where
        pub judge_child : f ≡ false → (d : Diagnosis) → d ≡ judge hit far m (n - (k + 1 + 1)) (k + 1) (i + 1) → d ≡ judge hit far m (n - (k + 1)) k i
        unfolding judge
        judge_child g d q = rw (one_left n (k + 1) l) (simp (lt-ltb i m h, matched b _ e t, ← c, g) q)

        pub judge_descendant : f ≡ true → (d : Diagnosis)
            → d ≡ tried (Err (MissingDescendant (k + 1) (i + 1))) (spread (judge hit far m (n - (k + 1 + 1)) (k + 1)) (i + 1) (m - (i + 1)))
            → d ≡ judge hit far m (n - (k + 1)) k i
        unfolding judge
        judge_descendant g d q = rw (one_left n (k + 1) l) (simp (lt-ltb i m h, matched b _ e t, ← c, g) q)

-- What was found so far is what would be given if no later place gave an error that counts
pub tried_one : (last d : Diagnosis) (l : List Diagnosis) → tried last (d ∷ l) ≡ cond (is_fit d) Fits (tried (cond (is_mismatch d) last d) l)
unfolding tried some_fit other_errors last_or
tried_one last (Ok u) l = refl
tried_one last (Err EmptySelectorWithNonEmptyPath) l = refl
tried_one last (Err (MissingSubject k i)) l = refl
tried_one last (Err (StepMismatch k i)) l = refl
tried_one last (Err (TrailingSubjects n i)) l = refl
tried_one last (Err (MissingDescendant k i)) l = refl

-- an error that counts takes the place of the last
tried_counts : (last : Diagnosis) (x : SelectorMismatch) (l : List Diagnosis) → ((k i : ℕ) → x ≡ StepMismatch k i → ⊥) → tried last (Err x ∷ l) ≡ tried (Err x) l
tried_counts last EmptySelectorWithNonEmptyPath l g = tried_one _ _ _
tried_counts last (MissingSubject k i) l g = tried_one _ _ _
tried_counts last (StepMismatch k i) l g = absurd (g k i refl)
tried_counts last (TrailingSubjects n i) l g = tried_one _ _ _
tried_counts last (MissingDescendant k i) l g = tried_one _ _ _

module _ (f : ℕ → Diagnosis) (m from : ℕ) (last : Diagnosis) where
  pub try_none : m ≤ from → last ≡ tried last (spread f from (m - from))
  unfolding tried some_fit other_errors last_or
  try_none h = rw (none_left m from h)

  module _ (h : from < m) (d : Diagnosis) (here : d ≡ f from) where
    one_more_lem : spread f from (m - from) ≡ d ∷ spread f (from + 1) (m - (from + 1))
    one_more_lem = rw (one_left m from h, here, add-one from)

    pub try_fits : d ≡ Fits → Fits ≡ tried last (spread f from (m - from))
    try_fits e = rw (one_more_lem, tried_one, e)

    module _ (x : SelectorMismatch) (e : d ≡ Err x) where
      pub try_dropped : (k i : ℕ) → x ≡ StepMismatch k i → (r : Diagnosis) → r ≡ tried last (spread f (from + 1) (m - (from + 1))) → r ≡ tried last (spread f from (m - from))
      try_dropped k i s r g = rw (one_more_lem, tried_one, e, s) g

      pub try_kept : ((k i : ℕ) → x ≡ StepMismatch k i → ⊥) → (r : Diagnosis) → r ≡ tried (Err x) (spread f (from + 1) (m - (from + 1))) → r ≡ tried last (spread f from (m - from))
      try_kept n r g = g ∙ sym (ap (tried last) one_more_lem ∙ rw e (tried_counts last x _ n))

pub ruleset judging = (judge_missing, judge_mismatch, judge_trailing, judge_fits, judge_child, judge_descendant, try_none, try_fits, try_dropped, try_kept)
