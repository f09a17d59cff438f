-- Laws of the weight of a sheet's rule: the counts of a step, their sums, and the sums as a weight. Assumes nothing.
use mathlib.Core.Path.{◌≡◌, refl, sym, ap, ◌∙◌}
use mathlib.Core.Bool.{true}
use mathlib.Core.List.{List}
use Prim.Native.Nat.{ℕ, zero, suc, ◌+◌, ◌-◌, ◌*◌, ◌≤◌, ◌<◌}
use native.Mathlib.Omega.{arith}
use lib.ListN.{length, get_or, drop, length-drop}
use lib.Seq.{length-take-le}
use Rattle.theory.specs.Lists.{spread, total}
use Rattle.theory.specs.Weight.{Counts, weight_of}
use Rattle.theory.proofs.Spreads.{map_spread}
use Rattle.lent.specs.Pool.{start_of}
use Rattle.selector.specs.Rows.{row_at, tag_of, words_from}
use Rattle.selector.specs.Weighing.{is_set, counts_of, Counted, Summed}
use Rattle.selector.specs.declared.Specificity.{Specificity}
use Rattle.selector.proofs.WeighLaws.{total_next}
use Rattle.sheet.specs.Layout.{rules_in, steps_in, step_place}
use Rattle.sheet.specs.Sheets.{part_at, rule_at, counts_for, rule_step_ends}
use Rattle.sheet.specs.Shape.{sheet_shape}
use Rattle.sheet.proofs.ReadLaws.{room, steps_few, step_flags, step_ids, rule_steps, rule_steps_end}
use Rattle.weighed.specs.Weighing.{weight_from}

-- ---- one step's counts

-- a flag that is 0 or 1 says whether its tag is set
flag_is : (flag tag : ℕ) → flag ≤ 1 → flag ≡ is_set (tag_of flag tag)
flag_is zero tag h = refl
flag_is (suc zero) tag h = refl
flag_is (suc (suc n)) tag h = absurd (omega arith)

-- as many words as asked for, where they are there
count_is : (w : List ℕ) (at n : ℕ) → at + n ≤ length w → n ≡ length (words_from w at n)
count_is w at n h = sym (length-take-le n (drop at w) (simp length-drop (omega arith)))

module _ (w : List ℕ) (s : ℕ) (pre : (sheet_shape w ≡ true) × (s < steps_in w)) (at : ℕ) (e : at ≡ step_place s) where
  pub step_counted : (p c a t : ℕ) → p ≡ get_or w (at + 5) 0 → c ≡ get_or w (at + 4) 0 → a ≡ get_or w (at + 2) 0 → t ≡ get_or w at 0
      → Counted (row_at 8 w (step_place s)) (record { 0 = p; 1 = c; 2 = a; 3 = t })
  unfolding counts_of row_at
  step_counted p c a t f g h i =
      let (m, l) = pre in
      let wide = room w m in
      let few = steps_few w m in
      let (type, part) = step_flags w m s l in
      let (classes, pseudos) = step_ids w m s l in
      record {
        pseudos = f ∙ rw e (count_is w (step_place s + 14) (get_or w (step_place s + 5) 0) (omega arith));
        classes = g ∙ rw e (count_is w (step_place s + 6) (get_or w (step_place s + 4) 0) (omega arith));
        parts = h ∙ rw e (flag_is (get_or w (step_place s + 2) 0) (get_or w (step_place s + 3) 0) part);
        types = i ∙ rw e (flag_is (get_or w (step_place s) 0) (get_or w (step_place s + 1) 0) type);
        pseudos_few = rw (f, e) pseudos;
        classes_few = rw (g, e) classes;
        parts_few = rw (h, e) (omega arith);
        types_few = rw (i, e) (omega arith);
      }

-- ---- the sums

abbrev pub counts_at : List ℕ → ℕ → Counts
counts_at w s = counts_of (row_at 8 w (step_place s))

pub counts_spread : (w : List ℕ) (r : ℕ) → counts_for (rule_at w r).selector ≡ spread (counts_at w) (start_of (rule_step_ends w) r) (rule_step_ends w r - start_of (rule_step_ends w) r)
unfolding rule_at part_at
counts_spread w r = map_spread (λ p. counts_of p.step) (part_at w) (start_of (rule_step_ends w) r) (rule_step_ends w r - start_of (rule_step_ends w) r)

-- the counts of a rule's steps from `from` up to s, where its last one ends at `to`
pub record Adding (w : List ℕ) (r from to s p c a t : ℕ) : Type 0 where
  pub shape : sheet_shape w ≡ true
  pub from_is : from ≡ start_of (rule_step_ends w) r
  pub to_is : to ≡ rule_step_ends w r
  pub to_below : to ≤ steps_in w
  pub to_few : to ≤ from + 8
  pub above : from ≤ s
  pub within : s ≤ to
  pub pseudos : p ≡ total (λ x. x.pseudos) (spread (counts_at w) from (s - from))
  pub classes : c ≡ total (λ x. x.classes) (spread (counts_at w) from (s - from))
  pub parts : a ≡ total (λ x. x.parts) (spread (counts_at w) from (s - from))
  pub types : t ≡ total (λ x. x.types) (spread (counts_at w) from (s - from))
  pub pseudos_few : p ≤ 8 * (s - from)
  pub classes_few : c ≤ 8 * (s - from)
  pub parts_few : a ≤ 8 * (s - from)
  pub types_few : t ≤ 8 * (s - from)

pub sum_start : (w : List ℕ) (r from to : ℕ) → (sheet_shape w ≡ true) × (r < rules_in w) → from ≡ start_of (rule_step_ends w) r → to ≡ rule_step_ends w r → Adding w r from to from 0 0 0 0
unfolding total
sum_start w r from to pre e f =
    let (m, l) = pre in
    let (rises, few) = rule_steps w m r l in
    let z : from - from ≡ 0 = omega arith in
    record {
      shape = m;
      from_is = e;
      to_is = f;
      to_below = rw f (rule_steps_end w m r l);
      to_few = omega arith;
      above = omega arith;
      within = omega arith;
      pseudos = rw z;
      classes = rw z;
      parts = rw z;
      types = rw z;
      pseudos_few = omega arith;
      classes_few = omega arith;
      parts_few = omega arith;
      types_few = omega arith;
    }

module _ {w : List ℕ} {r from to s p c a t : ℕ} (m : Adding w r from to s p c a t) where
  pub sum_there : s < to → (sheet_shape w ≡ true) × (s < steps_in w)
  sum_there h = (m.shape, omega (arith, m.to_below))

  one_more_lem : (g : Counts → ℕ) (x y : ℕ) → x ≡ total g (spread (counts_at w) from (s - from)) → y ≡ g (counts_at w s) → x + y ≡ total g (spread (counts_at w) from (s + 1 - from))
  one_more_lem g x y e f =
      let z : s + 1 - from ≡ suc (s - from) = omega (arith, m.above) in
      let q : from + (s - from) ≡ s = omega (arith, m.above) in
      rw (e, f, z, total_next g (counts_at w) from (s - from), q)

  pub sum_next : (d : Specificity) → s < to → Counted (row_at 8 w (step_place s)) d → Adding w r from to (s + 1) (p + d.0) (c + d.1) (a + d.2) (t + d.3)
  sum_next d h k = record {
    shape = m.shape;
    from_is = m.from_is;
    to_is = m.to_is;
    to_below = m.to_below;
    to_few = m.to_few;
    above = omega (arith, m.above);
    within = omega arith;
    pseudos = one_more_lem (λ x. x.pseudos) p d.0 m.pseudos k.pseudos;
    classes = one_more_lem (λ x. x.classes) c d.1 m.classes k.classes;
    parts = one_more_lem (λ x. x.parts) a d.2 m.parts k.parts;
    types = one_more_lem (λ x. x.types) t d.3 m.types k.types;
    pseudos_few = omega (arith, m.above, m.pseudos_few, k.pseudos_few);
    classes_few = omega (arith, m.above, m.classes_few, k.classes_few);
    parts_few = omega (arith, m.above, m.parts_few, k.parts_few);
    types_few = omega (arith, m.above, m.types_few, k.types_few);
  }

  whole : to ≤ s → spread (counts_at w) from (s - from) ≡ counts_for (rule_at w r).selector
  whole h =
      let q : s - from ≡ rule_step_ends w r - start_of (rule_step_ends w) r = omega (arith, m.to_is, m.from_is, m.within) in
      rw (q, m.from_is) (sym (counts_spread w r))

  pub sum_end : to ≤ s → Summed (counts_for (rule_at w r).selector) (record { 0 = p; 1 = c; 2 = a; 3 = t })
  sum_end h = record {
    pseudos = m.pseudos ∙ ap (total (λ x. x.pseudos)) (whole h);
    classes = m.classes ∙ ap (total (λ x. x.classes)) (whole h);
    parts = m.parts ∙ ap (total (λ x. x.parts)) (whole h);
    types = m.types ∙ ap (total (λ x. x.types)) (whole h);
    pseudos_few = omega (arith, m.pseudos_few, m.within, m.to_few);
    classes_few = omega (arith, m.classes_few, m.within, m.to_few);
    parts_few = omega (arith, m.parts_few, m.within, m.to_few);
    types_few = omega (arith, m.types_few, m.within, m.to_few);
  }

pub ruleset sums = (sum_start, sum_there, sum_next, sum_end)

-- ---- the weight

-- the sums are the weight in ranking 0, and added in pairs in ranking 1
module _ (l : List Counts) (s : Specificity) (m : Summed l s) where
  pub sums_weigh : (ranking : ℕ) → ranking ≡ 0 → weight_from s ≡ weight_of ranking l
  sums_weigh ranking k = rw (k, m.pseudos, m.classes, m.parts, m.types)

  pub pairs_weigh : (ranking : ℕ) → ranking ≤ 1 → (ranking ≡ 0 → ⊥) → (t : Specificity) → t.0 ≡ s.1 + s.0 → t.1 ≡ s.3 + s.2 → t.2 ≡ 0 → t.3 ≡ 0 → weight_from t ≡ weight_of ranking l
  pairs_weigh ranking h k t a b c d = let q : ranking ≡ 1 = omega arith in rw (q, a, b, c, d, m.pseudos, m.classes, m.parts, m.types)
