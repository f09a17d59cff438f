-- Laws of the test of a sheet's shape, by each way through the code. Assumes nothing.
use mathlib.Core.Path.{◌≡◌, refl, sym, ◌∙◌, ap}
use mathlib.Core.Bool.{Bool, true, false, not, ◌&&◌}
use mathlib.Core.List.{List}
use Prim.Native.Nat.{ℕ, ◌+◌, ◌-◌, ◌*◌, ◌≤◌, ◌<◌}
use native.Mathlib.Numerals.{add-one}
use native.Mathlib.Omega.{arith}
use lib.ListN.{get_or, take, drop}
use lib.Dec.{leb, eqb}
use borrow.Author.Tests.{lt-ltb, le-ltb, not-true, not-false}
use Rattle.theory.specs.Lists.{ascends, at_most, sum_below}
use Rattle.lent.specs.All.{all_below}
use Rattle.lent.specs.Pool.{ends_in, start_of, list_at}
use Rattle.selector.specs.Rows.{row_at, words_from}
use Rattle.sheet.specs.Layout
use Rattle.sheet.specs.Sheets.{rule_step_ends}
use Rattle.sheet.specs.Shape.{entries_fit, end_to_end, first_untied, properties_ascend, type_flag_fits, part_flag_fits, classes_fit, pseudos_fit, classes_ascend, pseudos_ascend, combinator_fits, step_fine, pool_fits, ids_at, ends_at, ids_meet}

-- ---- tests one after the other

pub and_no : (a b p : Bool) → p ≡ a → not p ≡ true → false ≡ (a && b)
and_no a b p e f = rw (sym e ∙ not-true p f)

pub and_yes : (a b p r : Bool) → p ≡ a → not p ≡ false → r ≡ b → r ≡ (a && b)
and_yes a b p r e f g = rw (sym e ∙ not-false p f) g

-- a test that was passed, as a callee asks for it
pub passed : (a p : Bool) → p ≡ a → not p ≡ false → a ≡ true
passed a p e f = sym e ∙ not-false p f

pub ruleset tests = (and_no, and_yes, passed)

-- what a callee said of a number x that was read, and is a
pub all_read : (p : ℕ → Bool) (a x : ℕ) (b : Bool) → b ≡ all_below x p → x ≡ a → b ≡ all_below a p
all_read p a x b e f = e ∙ rw f

pub pool_read : (w : List ℕ) (base room a x : ℕ) (b : Bool) → b ≡ pool_fits w base room x → x ≡ a → b ≡ pool_fits w base room a
pool_read w base room a x b e f = e ∙ rw f

module _ (ends : ℕ → ℕ) (a c x y : ℕ) (b p : Bool) (e : p ≡ ends_at ends x y) where
  pub ends_no : not p ≡ true → x ≡ a → y ≡ c → false ≡ (ends_at ends a c && b)
  ends_no t f g = rw (← f, ← g) (and_no (ends_at ends x y) b p e t)

  pub ends_yes : not p ≡ false → x ≡ a → y ≡ c → (r : Bool) → r ≡ b → r ≡ (ends_at ends a c && b)
  ends_yes t f g r h = rw (← f, ← g) (and_yes (ends_at ends x y) b p r e t h)

-- a number x that was read, and is a
pub leb_read : (x a n : ℕ) → x ≡ a → leb x n ≡ leb a n
leb_read x a n e = rw e

-- two counts, widened and summed
pub entries_are : (w : List ℕ) (x y x' y' : ℕ) → x ≡ Layout.entries_in w → x' ≡ x → y ≡ Layout.style_entries_in w → y' ≡ y → leb (x' + y') 4096 ≡ entries_fit w
unfolding entries_fit
entries_are w x y x' y' e f g h = rw (f, h, e, g)

-- ---- lists

pub list_ends : (ends : ℕ → ℕ) (k from to : ℕ) → from ≡ start_of ends k → to ≡ ends k → leb from to ≡ end_to_end ends k
unfolding end_to_end
list_ends ends k from to e f = rw (e, f)

pub properties_are : (w pool l : List ℕ) (at : ℕ) (ends : ℕ → ℕ) (k : ℕ) (b : Bool)
    → pool ≡ drop at w
    → l ≡ list_at ends pool k
    → b ≡ ascends l
    → b ≡ properties_ascend w at ends k
unfolding properties_ascend
properties_are w pool l at ends k b p q r = rw (← p, ← q) r

module _ (w : List ℕ) (r first to : ℕ) (e : first ≡ start_of (rule_step_ends w) r) (f : to ≡ rule_step_ends w r) where
  pub untied_none : to ≤ first → true ≡ first_untied w r
  unfolding first_untied
  untied_none h = rw (← e, ← f, le-ltb first to h)

  pub untied_some : first < to → (v : ℕ) → v ≡ ends_in w Layout.STEP-COMBINATOR Layout.STEP-WORDS first → eqb v 0 ≡ first_untied w r
  unfolding first_untied
  untied_some h v g = rw (← e, ← f, lt-ltb first to h, g)

-- ---- steps

-- ids in a row that stands at `place`
pub ids_rise : (w : List ℕ) (place at from count : ℕ) (l : List ℕ) (b : Bool) → at ≡ place → l ≡ words_from w (at + from) (get_or w (at + count) 0) → b ≡ ascends l
    → b ≡ ascends (words_from w (place + from) (get_or w (place + count) 0))
ids_rise w place at from count l b q e f = rw (← q, ← e) f

four : (x y z u v : Bool) → ((x && (y && (z && u))) && v) ≡ (x && (y && (z && (u && v))))
four false y z u v = refl
four true false z u v = refl
four true true false u v = refl
four true true true u v = refl

-- what was read of step s, as a clause of its shape
module _ (w : List ℕ) (s : ℕ) (b : Bool) where
  step_word : (c n : ℕ) → b ≡ leb (ends_in w (Layout.STEP + c) Layout.STEP-WORDS s) n → b ≡ leb (get_or w (Layout.step_place s + c) 0) n
  unfolding ends_in
  step_word c n e = let z : Layout.STEP + c + Layout.STEP-WORDS * s ≡ Layout.step_place s + c = omega arith in rw z at e

  pub type_flag : b ≡ leb (ends_in w 1288 23 s) 1 → b ≡ type_flag_fits w s
  unfolding type_flag_fits ends_in
  type_flag e = e

  pub part_flag : b ≡ leb (ends_in w 1290 23 s) 1 → b ≡ part_flag_fits w s
  unfolding part_flag_fits
  part_flag e = step_word 2 1 e

  pub class_count : b ≡ leb (ends_in w 1292 23 s) 8 → b ≡ classes_fit w s
  unfolding classes_fit
  class_count e = step_word 4 8 e

  pub pseudo_count : b ≡ leb (ends_in w 1293 23 s) 8 → b ≡ pseudos_fit w s
  unfolding pseudos_fit
  pseudo_count e = step_word 5 8 e

  pub classes_rise : b ≡ ascends (words_from w (Layout.step_place s + 6) (get_or w (Layout.step_place s + 4) 0)) → b ≡ classes_ascend w s
  unfolding classes_ascend row_at
  classes_rise e = e

  pub pseudos_rise : b ≡ ascends (words_from w (Layout.step_place s + 14) (get_or w (Layout.step_place s + 5) 0)) → b ≡ pseudos_ascend w s
  unfolding pseudos_ascend row_at
  pseudos_rise e = e

  pub combinator_code : b ≡ leb (ends_in w 1310 23 s) 1 → b ≡ combinator_fits w s
  unfolding combinator_fits
  combinator_code e = e

  -- all of them, the first four together
  pub step_parts : b ≡ ((type_flag_fits w s && (part_flag_fits w s && (classes_fit w s && pseudos_fit w s))) && (classes_ascend w s && (pseudos_ascend w s && combinator_fits w s))) → b ≡ step_fine w s
  unfolding step_fine
  step_parts e = e ∙ four (type_flag_fits w s) (part_flag_fits w s) (classes_fit w s) (pseudos_fit w s) _

pub ruleset cells = (type_flag, part_flag, class_count, pseudo_count, classes_rise, pseudos_rise, combinator_code)

-- ---- pools

-- the words from `base` up to `base + n`
pub words_most : (w l : List ℕ) (limit base n n' : ℕ) (b : Bool) → n' ≡ n → l ≡ take (base + n' - base) (drop base w) → b ≡ at_most limit l → b ≡ at_most limit (words_from w base n)
words_most w l limit base n n' b e p q = let z : base + n' - base ≡ n = omega arith in q ∙ ap (at_most limit) (rw z at p)

-- ---- sums and ends

-- a walk over n steps, at s: `sum` is the ids of those before it
pub record Adding (w : List ℕ) (n s sum : ℕ) : Type 0 where
  pub within : s ≤ n
  pub is : sum ≡ sum_below (ids_at w) s
  -- each step adds two u32
  pub small : sum ≤ 8589934590 * s

pub adding_start : {w : List ℕ} {n : ℕ} → Adding w n 0 0
unfolding sum_below
adding_start = record { within = omega arith; is = refl; small = omega arith }

module _ {w : List ℕ} {n s sum : ℕ} (a : Adding w n s sum) where
  pub adding_next : s < n → (at x y x' y' : ℕ)
      → at ≡ Layout.step_place s
      → x ≡ get_or w (at + 4) 0
      → x' ≡ x
      → y ≡ get_or w (at + 5) 0
      → y' ≡ y
      → x < 4294967296
      → y < 4294967296
      → Adding w n (s + 1) (sum + (x' + y'))
  unfolding sum_below
  adding_next h at x y x' y' q e f g i k l = record {
    within = omega arith;
    is = rw (add-one s, f, i, e, g, q, a.is);
    small = omega arith;
  }

  pub adding_end : n ≤ s → sum ≡ sum_below (ids_at w) n
  adding_end h = let q : n ≡ s = omega arith in rw q a.is

pub ruleset adding = (adding_start, adding_next, adding_end)

pub ends_are : (ends : ℕ → ℕ) (n count v : ℕ) → v ≡ start_of ends n → eqb v count ≡ ends_at ends n count
unfolding ends_at
ends_are ends n count v e = rw e

pub ids_are : (w : List ℕ) (n sum ids wide : ℕ) → n ≡ Layout.steps_in w → sum ≡ sum_below (ids_at w) n → ids ≡ Layout.ids_in w → wide ≡ ids → eqb sum wide ≡ ids_meet w
unfolding ids_meet
ids_are w n sum ids wide p q r s = rw (q, p, s, r)
