-- Laws of the weight: one step's counts, the sums one step further, and the answer. Assumes nothing.
use mathlib.Core.Path.{◌≡◌, refl, sym, ◌∙◌}
use mathlib.Core.Bool.{true, not}
use mathlib.Core.List.{List, [], ◌∷◌}
use Prim.Native.Nat.{ℕ, zero, suc, ◌+◌, ◌*◌, ◌≤◌, ◌<◌}
use native.Mathlib.Numerals.{add-one}
use native.Mathlib.Omega.{arith}
use lib.ListN.{length, get_or}
use lib.Dec.{ltb}
use mir.Syntax.{w32}
use mir.Val.{Fits}
use borrow.Author.Tests.{eq-eqb, ne_eqb, ltb-false, not-true}
use Rattle.theory.specs.Lists.{sort, spread, total}
use Rattle.theory.specs.Weight.{Counts}
use Rattle.theory.proofs.Lists.{and_left, and_right, sort_length}
use Rattle.lent.specs.All.{all_below}
use Rattle.idset.specs.Buffers.{Holds}
use Rattle.lent.specs.Refusals.{number_of, told}
use Rattle.lent.specs.declared.Refusal.{Refusal}
use Rattle.lent.proofs.All.{all_at}
use Rattle.lent.proofs.Refusals.{refused_first}
use Rattle.selector.specs.declared.Specificity.{Specificity}
use Rattle.selector.specs.Tags.{as_sets}
use Rattle.selector.specs.Rows.{tag_of, words_from, row_at, step_at}
use Rattle.selector.specs.Checks.{row_fits, selector_verdict}
use Rattle.selector.specs.Weighing.{is_set, counts_of, counts_in, Counted, Summed, weighing_of}
use Rattle.selector.proofs.RowLaws.{words_few}

-- ---- one step

pub different_fits : (given d e : List ℕ) (r : ℕ) → Holds (sort given) d r e → length given ≤ 8 → Fits w32 r
different_fits given d e r h g = record { fits = omega (arith, h.count, sort_length given) }

pub flag_none : (w flag tag : ℕ) → w ≡ flag → w ≡ 0 → 0 ≡ is_set (tag_of flag tag)
flag_none w flag tag e z = rw (eq-eqb flag 0 (sym e ∙ z))

pub flag_set : (w flag tag : ℕ) → w ≡ flag → (w ≡ 0 → ⊥) → 1 ≡ is_set (tag_of flag tag)
flag_set w flag tag e n = rw (ne_eqb flag 0 (λ q. n (e ∙ q)))

-- a count that passed its test
counted : (n : ℕ) → not (ltb 8 n) ≡ true → n ≤ 8
counted n h = ltb-false 8 n (not-true (ltb 8 n) h)

module _ (steps : List ℕ) (s : ℕ) (l : List ℕ) (fits : row_fits 8 steps s ≡ true) where
  pub pseudos_few : l ≡ words_from steps (s + 14) (get_or steps (s + 5) 0) → length l ≤ 8
  pseudos_few e = words_few 8 steps l (s + 14) (get_or steps (s + 5) 0) e (counted _ (and_right (not (ltb 8 (get_or steps (s + 4) 0))) _ fits))

  pub classes_few : l ≡ words_from steps (s + 6) (get_or steps (s + 4) 0) → length l ≤ 8
  classes_few e = words_few 8 steps l (s + 6) (get_or steps (s + 4) 0) e (counted _ (and_left _ (not (ltb 8 (get_or steps (s + 5) 0))) fits))

module _ (steps : List ℕ) (s : ℕ) (fits : row_fits 8 steps s ≡ true) (l m : List ℕ) (p c a t : ℕ) where
  pub step_counted : l ≡ words_from steps (s + 14) (get_or steps (s + 5) 0) → p ≡ length (sort l)
      → m ≡ words_from steps (s + 6) (get_or steps (s + 4) 0) → c ≡ length (sort m)
      → (a ≡ is_set (tag_of (get_or steps (s + 2) 0) (get_or steps (s + 2 + 1) 0))) × (a ≤ 1)
      → (t ≡ is_set (tag_of (get_or steps s 0) (get_or steps (s + 1) 0))) × (t ≤ 1)
      → Counted (as_sets (row_at 8 steps s)) (record { 0 = p; 1 = c; 2 = a; 3 = t })
  unfolding counts_of row_at
  step_counted e f g h i j =
      let q : s + 2 + 1 ≡ s + 3 = omega arith in
      record {
        pseudos = f ∙ rw e;
        classes = h ∙ rw g;
        parts = rw q at i.0;
        types = j.0;
        pseudos_few = omega (arith, sort_length l, pseudos_few steps s l fits e);
        classes_few = omega (arith, sort_length m, classes_few steps s m fits g);
        parts_few = omega arith;
        types_few = omega arith;
      }

-- ---- the sums

pub total_next : (g : Counts → ℕ) (f : ℕ → Counts) (k n : ℕ) → total g (spread f k (suc n)) ≡ total g (spread f k n) + g (f (k + n))
unfolding total
total_next g f k zero = let z : k + 0 ≡ k = omega arith in rw z (omega arith)
total_next g f k (suc n) = let z : k + suc n ≡ suc k + n = omega arith in rw (z, total_next g f (suc k) n) (omega arith)

pub counts_next : (g : Counts → ℕ) (steps : List ℕ) (k : ℕ) → total g (counts_in steps (k + 1)) ≡ total g (counts_in steps k) + g (counts_of (step_at steps k))
unfolding counts_in
counts_next g steps k = let z : 0 + k ≡ k = omega arith in rw add-one (total_next g (λ j. counts_of (step_at steps j)) 0 k ∙ rw z)

-- the counts of the first k of n steps
pub record Summing (steps : List ℕ) (n k p c a t : ℕ) : Type 0 where
  pub within : k ≤ n
  pub pseudos : p ≡ total (λ x. x.pseudos) (counts_in steps k)
  pub classes : c ≡ total (λ x. x.classes) (counts_in steps k)
  pub parts : a ≡ total (λ x. x.parts) (counts_in steps k)
  pub types : t ≡ total (λ x. x.types) (counts_in steps k)
  pub pseudos_few : p ≤ 8 * k
  pub classes_few : c ≤ 8 * k
  pub parts_few : a ≤ 8 * k
  pub types_few : t ≤ 8 * k

pub sum_start : {steps : List ℕ} {n : ℕ} → Summing steps n 0 0 0 0 0
sum_start = unfold total counts_in in (record {
  within = omega arith;
  pseudos = refl;
  classes = refl;
  parts = refl;
  types = refl;
  pseudos_few = omega arith;
  classes_few = omega arith;
  parts_few = omega arith;
  types_few = omega arith;
})

module _ {steps : List ℕ} {n k p c a t : ℕ} (m : Summing steps n k p c a t) where
  one_more_lem : (g : Counts → ℕ) (x y : ℕ) → x ≡ total g (counts_in steps k) → y ≡ g (counts_of (step_at steps k)) → x + y ≡ total g (counts_in steps (k + 1))
  one_more_lem g x y e f = rw (e, f) (sym (counts_next g steps k))

  pub sum_next : (s : Specificity) → k < n → Counted (as_sets (row_at 8 steps (22 * k))) s → Summing steps n (k + 1) (p + s.0) (c + s.1) (a + s.2) (t + s.3)
  sum_next s h d = record {
    within = omega arith;
    pseudos = one_more_lem (λ x. x.pseudos) p s.0 m.pseudos d.pseudos;
    classes = one_more_lem (λ x. x.classes) c s.1 m.classes d.classes;
    parts = one_more_lem (λ x. x.parts) a s.2 m.parts d.parts;
    types = one_more_lem (λ x. x.types) t s.3 m.types d.types;
    pseudos_few = omega (arith, m.pseudos_few, d.pseudos_few);
    classes_few = omega (arith, m.classes_few, d.classes_few);
    parts_few = omega (arith, m.parts_few, d.parts_few);
    types_few = omega (arith, m.types_few, d.types_few);
  }

  pub sum_end : n ≤ k → n ≤ 8 → Summed (counts_in steps n) (record { 0 = p; 1 = c; 2 = a; 3 = t })
  sum_end h g =
      let e : k ≡ n = omega (arith, m.within) in
      record {
        pseudos = rw e at m.pseudos;
        classes = rw e at m.classes;
        parts = rw e at m.parts;
        types = rw e at m.types;
        pseudos_few = omega (arith, m.pseudos_few);
        classes_few = omega (arith, m.classes_few);
        parts_few = omega (arith, m.parts_few);
        types_few = omega (arith, m.types_few);
      }

pub row_at_lem : (steps : List ℕ) (n k : ℕ) → (n ≤ 8) × (all_below n (λ j. row_fits 8 steps (22 * j)) ≡ true) → k < n → row_fits 8 steps (22 * k) ≡ true
row_at_lem steps n k p h = all_at (λ j. row_fits 8 steps (22 * j)) n k h p.1

-- ---- the answer

module _ (steps : List ℕ) (n : ℕ) (combinators : List ℕ) (c : ℕ) where
  pub weigh_refused : (ranking : ℕ) (r : Refusal) → number_of r ≡ selector_verdict steps n combinators c → told r ≡ weighing_of ranking steps n combinators c
  unfolding weighing_of selector_verdict
  weigh_refused ranking r e = refused_first _ r _ refl e

  module _ (e : 0 ≡ selector_verdict steps n combinators c) (s : Specificity) (m : Summed (counts_in steps n) s) where
    pub weigh_sums : 0 ∷ s.0 ∷ s.1 ∷ s.2 ∷ s.3 ∷ [] ≡ weighing_of 0 steps n combinators c
    unfolding weighing_of
    weigh_sums = rw (← e, m.pseudos, m.classes, m.parts, m.types)

    pub weigh_level3 : 0 ∷ (s.1 + s.0) ∷ (s.3 + s.2) ∷ 0 ∷ 0 ∷ [] ≡ weighing_of 1 steps n combinators c
    unfolding weighing_of
    weigh_level3 = rw (← e, m.pseudos, m.classes, m.parts, m.types)
