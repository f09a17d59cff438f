-- Laws of a step's answers, by each way through the code. Assumes nothing.
use mathlib.Core.Path.{◌≡◌, refl, sym, ap, ◌∙◌}
use mathlib.Core.Bool.{Bool, true, false, ◌&&◌, ◌||◌, not}
use mathlib.Core.List.{List, [], ◌∷◌}
use Prim.Native.Nat.{ℕ, ◌+◌, ◌≤◌}
use native.Mathlib.Nat.{add-zero}
use lib.Dec.{ltb}
use borrow.Author.Tests.{ltb-false, not-true, not-false}
use Rattle.theory.proofs.Lists.{and_left, and_right}
use Rattle.theory.specs.Lists.{total}
use Rattle.lent.specs.Refusals.{first_of, one_if}
use Rattle.selector.specs.declared.Specificity.{Specificity}
use Rattle.selector.specs.Tags.{as_sets, step_matches}
use Rattle.selector.specs.Rows.{row_at}
use Rattle.selector.specs.Checks.{row_fits, tags_ascend}
use Rattle.selector.specs.Weighing.{Counted}
use Rattle.typed.specs.declared.SelectorInputs.{SelectorInputs}
use Rattle.typed.specs.Typed.{inputs_tags, inputs_row, over}
use Rattle.typed.proofs.Laws.{inputs_row_lem}
use Rattle.steps.specs.declared.SelectorStep.{SelectorStep}
use Rattle.steps.specs.Steps.{step_tags, step_row, step_verdict, step_matching, step_weighing}
use Rattle.steps.proofs.Laws.{step_row_lem}

-- a test that was made, and what it was made of
pub tested : (b t : Bool) → b ≡ t → not b ≡ false → t ≡ true
tested b t e f = sym e ∙ not-false b f

-- a row's counts as given, n and m
module _ (size n m : ℕ) (b : Bool) (e : b ≡ (not (ltb size n) && not (ltb size m))) where
  over_is : over size n m ≡ not b
  over_is = by (ltb size n) (ltb size m) ∙ ap not (sym e)
    where
      by : (c d : Bool) → (c || d) ≡ not (not c && not d)
      by true d = refl
      by false true = refl
      by false false = refl

  classes_within : b ≡ true → n ≤ size
  classes_within t = ltb-false size n (not-true (ltb size n) (and_left (not (ltb size n)) (not (ltb size m)) (sym e ∙ t)))

  pseudos_within : b ≡ true → m ≤ size
  pseudos_within t = ltb-false size m (not-true (ltb size m) (and_right (not (ltb size n)) (not (ltb size m)) (sym e ∙ t)))

module _ (s : SelectorStep) (ws : List ℕ) (e : ws ≡ step_row s) (b : Bool) (f : b ≡ row_fits 8 ws 0) where
  step_fits : b ≡ row_fits 8 (step_row s) 0
  step_fits = f ∙ ap (λ w. row_fits 8 w 0) e

  step_counts : over 8 s.class_count s.pseudo_count ≡ not b
  step_counts = over_is 8 s.class_count s.pseudo_count b step_fits

  step_is : b ≡ true → row_at 8 ws 0 ≡ step_tags s
  step_is t =
      rw e (step_row_lem s
      (classes_within 8 s.class_count s.pseudo_count b step_fits t) (pseudos_within 8 s.class_count s.pseudo_count b step_fits t))

  -- ---- weighing

  pub weigh_over : (ranking : ℕ) → b ≡ false → 2 ∷ [] ≡ step_weighing ranking s
  unfolding step_weighing first_of
  weigh_over ranking t = rw (step_counts, t)

  module _ (t : b ≡ true) (w : Specificity) (k : Counted (as_sets (row_at 8 ws 0)) w) where
    counted : Counted (as_sets (step_tags s)) w
    counted = rw (step_is t) at k

    pub weigh_plain : 0 ∷ w.0 ∷ w.1 ∷ w.2 ∷ w.3 ∷ [] ≡ step_weighing 0 s
    unfolding step_weighing first_of total
    weigh_plain = simp (step_counts, t, counted.pseudos, counted.classes, counted.parts, counted.types, add-zero)

    pub weigh_level3 : 0 ∷ (w.1 + w.0) ∷ (w.3 + w.2) ∷ 0 ∷ 0 ∷ [] ≡ step_weighing 1 s
    unfolding step_weighing first_of total
    weigh_level3 = simp (step_counts, t, counted.pseudos, counted.classes, counted.parts, counted.types, add-zero)

  -- ---- matching

  module _ (x : SelectorInputs) where
    pub step_over : b ≡ false → 2 ∷ [] ≡ step_matching s x
    unfolding step_matching step_verdict first_of
    step_over t = rw (step_counts, t)

    module _ (t : b ≡ true) (wx : List ℕ) (e' : wx ≡ inputs_row x) (b' : Bool) (f' : b' ≡ row_fits 16 wx 0) where
      subject_fits : b' ≡ row_fits 16 (inputs_row x) 0
      subject_fits = f' ∙ ap (λ w. row_fits 16 w 0) e'

      subject_counts : over 16 x.class_count x.pseudo_count ≡ not b'
      subject_counts = over_is 16 x.class_count x.pseudo_count b' subject_fits

      pub subject_over : b' ≡ false → 2 ∷ [] ≡ step_matching s x
      unfolding step_matching step_verdict first_of
      subject_over t' = rw (step_counts, t, subject_counts, t')

      module _ (t' : b' ≡ true) (a : Bool) (g : a ≡ tags_ascend (row_at 16 wx 0)) where
        subject_is : row_at 16 wx 0 ≡ inputs_tags x
        subject_is =
            rw e' (inputs_row_lem x
            (classes_within 16 x.class_count x.pseudo_count b' subject_fits t') (pseudos_within 16 x.class_count x.pseudo_count b' subject_fits t'))

        ascent : tags_ascend (inputs_tags x) ≡ a
        ascent = sym (rw subject_is at g)

        pub subject_unsorted : a ≡ false → 1 ∷ [] ≡ step_matching s x
        unfolding step_matching step_verdict first_of
        subject_unsorted u = rw (step_counts, t, subject_counts, t', ascent, u)

        module _ (u : a ≡ true) (q : Bool) (k : q ≡ step_matches (as_sets (row_at 8 ws 0)) (row_at 16 wx 0)) where
          answer : step_matches (as_sets (step_tags s)) (inputs_tags x) ≡ q
          answer = sym (rw (step_is t, subject_is) at k)

          pub step_answered : 0 ∷ one_if q ∷ [] ≡ step_matching s x
          unfolding step_matching step_verdict first_of
          step_answered = rw (step_counts, t, subject_counts, t', ascent, u, answer)
