-- Laws of the test of a table's shape, by each way through the code. Assumes nothing.
use mathlib.Core.Path.{◌≡◌, ◌∙◌}
use mathlib.Core.Bool.{Bool, true, false, not, ◌&&◌}
use mathlib.Core.List.{List}
use mathlib.Core.Logic.{inl, inr}
use Prim.Native.Nat.{ℕ, ◌+◌, ◌-◌, ◌*◌, ◌/◌, ◌%◌, ◌≤◌, ◌<◌}
use native.Mathlib.Omega.{arith}
use lib.ListN.{length, get_or}
use lib.Dec.{leb, ltb, eqb}
use mir.Syntax.{w32}
use mir.Val.{Fits}
use borrow.Author.Tests.{lt-ltb, le-ltb}
use Rattle.theory.specs.Lists.{ascends}
use Rattle.theory.proofs.Lists.{le_or_lt}
use Rattle.lent.specs.Pool.{start_of}
use Rattle.selector.specs.Rows.{row_at, words_from}
use Rattle.sheet.specs.Layout.{rules_in}
use Rattle.sheet.specs.Sheets.{rule_step_ends}
use Rattle.sheet.specs.Shape.{sheet_shape, ends_at}
use Rattle.sheet.proofs.Shaped.{shaped, step_start_within}
use Rattle.table.specs.Tables
use Rattle.table.specs.Shape.{cursor_exists, subject_fine, type_flag_fits, part_flag_fits, classes_fit, pseudos_fit, classes_ascend, pseudos_ascend, root_matched}
use Rattle.table.proofs.Selectors.{selector_past, selector_length}
use Rattle.table.proofs.Same.{same_none}

-- ---- numbers that were read: x is a, y is b

pub leb_read : (n x a : ℕ) → x ≡ a → leb n x ≡ leb n a
leb_read n x a e = rw e

pub leb_read_left : (n x a : ℕ) → x ≡ a → leb x n ≡ leb a n
leb_read_left n x a e = rw e

pub leb_wide : (x x' a n : ℕ) → x' ≡ x → x ≡ a → leb x' n ≡ leb a n
leb_wide x x' a n e f = rw (e, f)

pub leb_rows : (k k' x x' a n : ℕ) → k' ≡ k → x' ≡ x → x ≡ a → leb (k' * x') n ≡ leb (k * a) n
leb_rows k k' x x' a n e f g = rw (e, f, g)

pub ltb_one : (n x a : ℕ) → x ≡ a → ltb n x ≡ ltb n a
ltb_one n x a e = rw e

pub ltb_both : (x y a b : ℕ) → x ≡ a → y ≡ b → ltb x y ≡ ltb a b
ltb_both x y a b e f = rw (e, f)

ltb_same : (a b c d : ℕ) → (a < b → c < d) → (b ≤ a → d ≤ c) → ltb a b ≡ ltb c d
ltb_same a b c d f g = elim (le_or_lt b a) [ inl h ↦ rw (le-ltb a b h, le-ltb c d (g h)) | inr h ↦ rw (lt-ltb a b h, lt-ltb c d (f h)) ]

-- ---- lists of states

pub ends_last : (ends : ℕ → ℕ) (a c x y : ℕ) (b : Bool) → b ≡ ends_at ends x y → x ≡ a → y ≡ c → b ≡ ends_at ends a c
ends_last ends a c x y b e f g = e ∙ rw (f, g)

pub ascends_read : (l m : List ℕ) (b : Bool) → b ≡ ascends l → l ≡ m → b ≡ ascends m
ascends_read l m b e f = e ∙ rw f

-- ---- cursors and rules

module _ (w : List ℕ) (c n : ℕ) (e : n ≡ rules_in w) where
  pub cursor_past : n ≤ c / 8 → false ≡ cursor_exists w c
  unfolding cursor_exists
  cursor_past h = let g : rules_in w ≤ c / 8 = omega arith in rw (selector_past w (c / 8) g, le-ltb (c % 8) 0 (omega arith))

  module _ (h : c / 8 < n) (from : ℕ) (f : from ≡ start_of (rule_step_ends w) (c / 8)) where
    pub cursor_sum : sheet_shape w ≡ true → Fits w32 (from + c % 8)
    cursor_sum s = let t = shaped w s in record { fits = omega (arith, t.steps, step_start_within t (c / 8) (omega arith)) }

    pub cursor_there : (to : ℕ) → to ≡ rule_step_ends w (c / 8) → ltb (from + c % 8) to ≡ cursor_exists w c
    unfolding cursor_exists
    cursor_there to g =
        let l : c / 8 < rules_in w = omega arith in
        rw (selector_length w (c / 8) l, ← f, ← g) (ltb_same (from + c % 8) to (c % 8) (to - from) (λ k. omega arith) (λ k. omega arith))

-- ---- the subject of a transition

-- its tests, by the place that was worked out
pub subject_tests : (t : List ℕ) (k at : ℕ) → at ≡ Tables.subject_place k
    → subject_fine t k ≡ (leb (get_or t at 0) 1
    && (leb (get_or t (at + 2) 0) 1
    && (leb (get_or t (at + 4) 0) 16
    && (leb (get_or t (at + 5) 0) 16
    && (ascends (words_from t (at + 6) (get_or t (at + 4) 0)) && ascends (words_from t (at + 22) (get_or t (at + 5) 0)))))))
unfolding subject_fine type_flag_fits part_flag_fits classes_fit pseudos_fit classes_ascend pseudos_ascend row_at
subject_tests t k at q = rw q

-- ---- the root

pub root_none : (states matched l : List ℕ) → l ≡ Tables.matched_at states matched 0 → eqb (length l) 0 ≡ root_matched states matched
unfolding root_matched
root_none states matched l e = rw (← e) (same_none l)

-- ---- together

pub not_broken : (a b : Bool) → b ≡ a → b ≡ not (not a)
not_broken true b e = e
not_broken false b e = e
