-- What a call that answers a weight answers; that no sum of a step by value passes 64. Proofs for Demand2.antt. Assumes nothing.
use mathlib.Core.Path.{◌≡◌, refl, sym, ap, ◌∙◌}
use mathlib.Core.Bool.{Bool, true, false, not, cond}
use mathlib.Core.Logic.{◌≢◌}
use mathlib.Core.Option.{Option, none, some}
use mathlib.Core.List.{List, [], ◌∷◌, ◌++◌}
use Prim.Native.Nat.{ℕ, ◌≤◌, ◌<◌}
use native.Mathlib.Omega.{arith}
use lib.ListN.{length, get_or}
use lib.Dec.{ltb}
use lib.IntN.{pos, negsuc}
use borrow.Author.Tests.{ltb-true, ltb-false, not-false}
use Rattle.std.specs.Prelude.{Ok}
use Rattle.theory.specs.Lists.{compare, total}
use Rattle.theory.specs.Weight.{Counts, Weight, weight_of}
use Rattle.theory.proofs.Lists.{or_first, or_second, sort_length}
use Rattle.theory.proofs.Spreads.{length_spread}
use Rattle.theory.proofs.Level3.{weight_level3}
use Rattle.lent.specs.Refusals.{answered}
use Rattle.lent.proofs.Refusals.{first_clear}
use Rattle.selector.specs.declared.Specificity.{Specificity}
use Rattle.selector.specs.Tags.{as_sets}
use Rattle.selector.specs.Weighing.{is_set, counts_of, Summed, Unsaturated, weighing_told, weight_told}
use Rattle.typed.specs.Typed.{type_of, part_of, class_number, pseudo_number, over}
use Rattle.steps.specs.declared.SelectorStep.{SelectorStep}
use Rattle.steps.specs.Steps.{step_tags}
use Rattle.sheet.specs.Layout.{rules_in}
use Rattle.sheet.specs.Shape.{sheet_shape}
use Rattle.weighed.specs.Weighing.{weight_from}
use Rattle.reading.specs.Reading.{weight_verdict}
use Rattle.lent.proofs.Answers as answers
use Rattle.promises.specs.Level3.{Standard}

-- ---- a weight that is answered

abbrev read_weight : List ℕ → Weight
read_weight l = record { first = get_or l 1 0; second = get_or l 2 0; third = get_or l 3 0; fourth = get_or l 4 0 }

pub weighs : (ranking v : ℕ) (counts : List Counts) (s : Specificity) → weighing_told (Ok s) ≡ answered v (weight_told (weight_of ranking counts))
    → (v ≡ 0) × (weight_from s ≡ weight_of ranking counts)
weighs ranking v counts s e =
    let z = answers.accepted v _ _ e in
    let q : weighing_told (Ok s) ≡ weight_told (weight_of ranking counts) = rw z at e in
    (z, ap read_weight q)

module _ (counts : List Counts) (s : Specificity) where
  pub sums_are : weight_from s ≡ weight_of 0 counts → Unsaturated counts → Summed counts s
  sums_are q few =
      let a : s.0 ≡ (weight_of 0 counts).first = ap (λ (w : Weight). w.first) q in
      let b : s.1 ≡ (weight_of 0 counts).second = ap (λ (w : Weight). w.second) q in
      let c : s.2 ≡ (weight_of 0 counts).third = ap (λ (w : Weight). w.third) q in
      let d : s.3 ≡ (weight_of 0 counts).fourth = ap (λ (w : Weight). w.fourth) q in
      record {
        pseudos = a;
        classes = b;
        parts = c;
        types = d;
        pseudos_few = omega (arith, few.pseudos);
        classes_few = omega (arith, few.classes);
        parts_few = omega (arith, few.parts);
        types_few = omega (arith, few.types);
      }

  pub standard_is : weight_from s ≡ weight_of 1 counts → Unsaturated counts → Standard counts s
  standard_is q few = record {
    weight = q;
    level3 = weight_level3 counts ∙ sym (ap (λ (w : Weight). 0 ∷ w.first ∷ w.second ∷ []) q);
    first_few = omega (arith, ap (λ (w : Weight). w.first) q, few.ids);
    second_few = omega (arith, ap (λ (w : Weight). w.second) q, few.tags);
  }

-- ---- a rule by number

pub rule_there : (w : List ℕ) (r ranking : ℕ) → weight_verdict w r ranking ≡ 0 → (sheet_shape w ≡ true) × (r < rules_in w)
unfolding weight_verdict
rule_there w r ranking z =
    let (a, f) = first_clear 11 (not (sheet_shape w)) _ (omega arith) z in
    let (b, _) = first_clear 9 (not (ltb r (rules_in w))) _ (omega arith) f in
    (not-false _ a, ltb-true r (rules_in w) (not-false _ b))

-- ---- a step by value

set_few : (t : Option ℕ) → is_set t ≤ 1
set_few none = omega arith
set_few (some n) = omega arith

pub step_few : (x : SelectorStep) → over 8 x.class_count x.pseudo_count ≡ false → Unsaturated (counts_of (as_sets (step_tags x)) ∷ [])
unfolding total counts_of step_tags
step_few x e =
    let classes = ltb-false 8 x.class_count (or_first (ltb 8 x.class_count) _ e) in
    let pseudos = ltb-false 8 x.pseudo_count (or_second (ltb 8 x.class_count) _ e) in
    let p = sort_length (step_tags x).pseudos in
    let q = length_spread (pseudo_number x.required_pseudos) 0 x.pseudo_count in
    let r = sort_length (step_tags x).classes in
    let s = length_spread (class_number x.required_classes) 0 x.class_count in
    let a = set_few (part_of x.part_tag) in
    let t = set_few (type_of x.type_tag) in
    record { pseudos = omega arith; classes = omega arith; parts = omega arith; types = omega arith; ids = omega arith; tags = omega arith }

-- ---- what begins two lists decides, unless it is the same

pub compare_front : (l m a b : List ℕ) → length l ≡ length m → compare l m ≢ pos 0 → compare (l ++ a) (m ++ b) ≡ compare l m
unfolding compare
compare_front [] [] a b e n = absurd (n refl)
compare_front [] (y ∷ m) a b e n = absurd (omega arith)
compare_front (x ∷ l) [] a b e n = absurd (omega arith)
compare_front (x ∷ l) (y ∷ m) a b e n = by (ltb x y) (ltb y x) n (compare_front l m a b (omega arith))
  where
    by : (p q : Bool) → cond p (negsuc 0) (cond q (pos 1) (compare l m)) ≢ pos 0 → (compare l m ≢ pos 0 → compare (l ++ a) (m ++ b) ≡ compare l m)
        → cond p (negsuc 0) (cond q (pos 1) (compare (l ++ a) (m ++ b))) ≡ cond p (negsuc 0) (cond q (pos 1) (compare l m))
    by true q n r = refl
    by false true n r = refl
    by false false n r = r n
