-- Laws of the ids that rows of steps hold: a row's are in its own 22 words, and an empty row holds none. Assumes nothing.
use mathlib.Core.Path.{◌≡◌, refl, sym, ap, ◌∙◌}
use mathlib.Core.Bool.{true, not}
use mathlib.Core.List.{List, [], ◌∷◌, ◌++◌}
use Prim.Native.Nat.{ℕ, zero, suc, ◌+◌, ◌-◌, ◌*◌, ◌≤◌, ◌<◌}
use native.Mathlib.Nat.{zero-add}
use native.Mathlib.Omega.{arith}
use lib.ListN.{length, get_or, take, drop, length-drop}
use lib.Seq.{take-nil, take_all, take-take, take-append-le, drop-append-le, drop-append_seam, drop-drop, get_or-take, get_or-drop}
use lib.Dec.{ltb}
use borrow.Author.Tests.{ltb-false, le-ltb, not-true}
use Rattle.theory.specs.Lists.{sort}
use Rattle.theory.proofs.Lists.{and_left, and_right}
use Rattle.theory.proofs.Spreads.{spread_same}
use Rattle.selector.specs.Tags.{as_sets}
use Rattle.selector.specs.Rows.{row_at, step_at, selector_of}
use Rattle.selector.specs.Checks.{row_fits}
use Rattle.selector.specs.Weighing.{counts_of, counts_in}
use Rattle.selector.proofs.WeighLaws.{counts_next}
use Rattle.sheet.specs.Laying.{ids_held}
use Rattle.given.proofs.Counting.{ids_counted}
use Rattle.records.specs.Rows.{empty_row}

-- ---- a row's own words

pub drop_take : (m n : ℕ) (l : List ℕ) → drop m (take (m + n) l) ≡ take n (drop m l)
drop_take zero n l = rw zero-add
drop_take (suc m) n [] = ap (drop (suc m)) (take-nil (suc m + n)) ∙ sym (take-nil n)
drop_take (suc m) n (a ∷ l) = let z : suc m + n ≡ suc (m + n) = omega arith in rw z (drop_take m n l)

-- a few of its words, from word a on
part_alone : (s : List ℕ) (at a n : ℕ) → a + n ≤ 22 → take n (drop (0 + a) (take 22 (drop at s))) ≡ take n (drop (at + a) s)
part_alone s at a n h =
    let z : 0 + a ≡ a = omega arith in
    let y : 22 ≡ a + (22 - a) = omega arith in
    rw z
    (ap (λ k. take n (drop a (take k (drop at s)))) y
    ∙ ap (take n) (drop_take a (22 - a) (drop at s))
    ∙ take-take n (22 - a) (drop a (drop at s)) (omega arith)
    ∙ ap (take n) (drop-drop a at s))

word_alone : (s : List ℕ) (at a : ℕ) → a < 22 → get_or (take 22 (drop at s)) a 0 ≡ get_or s (at + a) 0
word_alone s at a h = get_or-take 22 (drop at s) a 0 h ∙ get_or-drop at s a 0

-- a row's two counts, by the size
module _ (size : ℕ) (s : List ℕ) (at : ℕ) where
  fitting : (n : ℕ) → not (ltb size n) ≡ true → n ≤ size
  fitting n h = ltb-false size n (not-true (ltb size n) h)

  pub fits_classes : row_fits size s at ≡ true → get_or s (at + 4) 0 ≤ size
  fits_classes h = fitting _ (and_left _ (not (ltb size (get_or s (at + 5) 0))) h)

  pub fits_pseudos : row_fits size s at ≡ true → get_or s (at + 5) 0 ≤ size
  fits_pseudos h = fitting _ (and_right (not (ltb size (get_or s (at + 4) 0))) _ h)

  pub row_fits_lem : get_or s (at + 4) 0 ≤ size → get_or s (at + 5) 0 ≤ size → row_fits size s at ≡ true
  row_fits_lem c p = rw (le-ltb size (get_or s (at + 4) 0) c, le-ltb size (get_or s (at + 5) 0) p)

-- a row that fits is what its 22 words say
pub row_alone : (s : List ℕ) (at : ℕ) → row_fits 8 s at ≡ true → row_at 8 (take 22 (drop at s)) 0 ≡ row_at 8 s at
unfolding row_at
row_alone s at h =
    let z : at + 0 ≡ at = omega arith in
    rw (
      word_alone s at 0 (omega arith),
      word_alone s at 1 (omega arith),
      word_alone s at 2 (omega arith),
      word_alone s at 3 (omega arith),
      word_alone s at 4 (omega arith),
      word_alone s at 5 (omega arith),
      part_alone s at 6 (get_or s (at + 4) 0) (omega (arith, fits_classes 8 s at h)),
      part_alone s at 14 (get_or s (at + 5) 0) (omega (arith, fits_pseudos 8 s at h)),
      z,
    )

-- the same words, the same row
pub row_same : (s t : List ℕ) (at : ℕ) → take 22 (drop at s) ≡ take 22 (drop at t) → row_fits 8 s at ≡ true → row_fits 8 t at ≡ true → row_at 8 s at ≡ row_at 8 t at
row_same s t at e h k = sym (row_alone s at h) ∙ ap (λ w. row_at 8 w 0) e ∙ row_alone t at k

-- ---- rows after rows

-- whether a row fits is read off its own words
pub fits_same : (s t : List ℕ) (at : ℕ) → take 22 (drop at s) ≡ take 22 (drop at t) → row_fits 8 s at ≡ row_fits 8 t at
fits_same s t at e = rw (
  sym (word_alone s at 4 (omega arith)),
  sym (word_alone s at 5 (omega arith)),
  e,
  word_alone t at 4 (omega arith),
  word_alone t at 5 (omega arith),
)

pub fits_read : (s : List ℕ) (at : ℕ) (row : List ℕ) → take 22 (drop at s) ≡ row → row_fits 8 s at ≡ row_fits 8 row 0
fits_read s at row e = rw (sym (word_alone s at 4 (omega arith)), sym (word_alone s at 5 (omega arith)), e)

-- n rows of each list that are the same have the same counts
pub counts_same : (s t : List ℕ) (n : ℕ)
    → ((k : ℕ) → k < n → take 22 (drop (22 * k) s) ≡ take 22 (drop (22 * k) t))
    → ((k : ℕ) → k < n → row_fits 8 s (22 * k) ≡ true)
    → counts_in s n ≡ counts_in t n
unfolding counts_in
counts_same s t n e h =
    spread_same (λ k. counts_of (step_at s k)) (λ k. counts_of (step_at t k)) 0 n
    (λ k p q. let l : k < n = omega arith in ap (λ r. counts_of (as_sets r)) (row_same s t (22 * k) (e k l) (h k l) (sym (fits_same s t (22 * k) (e k l)) ∙ h k l)))

pub ids_same : (s t : List ℕ) (n : ℕ)
    → ((k : ℕ) → k < n → take 22 (drop (22 * k) s) ≡ take 22 (drop (22 * k) t))
    → ((k : ℕ) → k < n → row_fits 8 s (22 * k) ≡ true)
    → ids_held (selector_of s [] n) ≡ ids_held (selector_of t [] n)
ids_same s t n e h = ids_counted s [] n ∙ rw (counts_same s t n e h) (sym (ids_counted t [] n))

-- one row more: its own ids are added
pub ids_next : (s : List ℕ) (n : ℕ)
    → ids_held (selector_of s [] (n + 1)) ≡ ids_held (selector_of s [] n) + ((counts_of (step_at s n)).classes + (counts_of (step_at s n)).pseudos)
ids_next s n =
    rw (ids_counted s [] (n + 1), ids_counted s [] n, counts_next (λ c. c.classes) s n, counts_next (λ c. c.pseudos) s n) (omega arith)

-- ---- an empty row at the end

-- rows before the end are not changed by what comes after
pub row_before : (a x : List ℕ) (at : ℕ) → at + 22 ≤ length a → take 22 (drop at (a ++ x)) ≡ take 22 (drop at a)
row_before a x at h =
    rw (drop-append-le at a x (omega arith)) (take-append-le 22 (drop at a) x (omega (arith, length-drop at a)))

pub row_after : (a x : List ℕ) (n : ℕ) → length a ≡ 22 * n → length x ≡ 22 → take 22 (drop (22 * n) (a ++ x)) ≡ x
row_after a x n h k = rw (← h, drop-append_seam a x) (take_all 22 x (omega arith))

empty_counts : (counts_of (as_sets (row_at 8 (empty_row 8) 0))).classes + (counts_of (as_sets (row_at 8 (empty_row 8) 0))).pseudos ≡ 0
unfolding counts_of row_at sort
empty_counts = refl

pub ids_empty : (a : List ℕ) (n : ℕ) → length a ≡ 22 * n → ((k : ℕ) → k < n → row_fits 8 a (22 * k) ≡ true)
    → ids_held (selector_of (a ++ empty_row 8) [] (n + 1)) ≡ ids_held (selector_of a [] n)
ids_empty a n e h =
    let b = a ++ empty_row 8 in
    let before : (k : ℕ) → k < n → take 22 (drop (22 * k) a) ≡ take 22 (drop (22 * k) b) = λ k l. sym (row_before a (empty_row 8) (22 * k) (omega arith)) in
    let new : take 22 (drop (22 * n) b) ≡ empty_row 8 = row_after a (empty_row 8) n e refl in
    let fits : row_fits 8 b (22 * n) ≡ true = fits_read b (22 * n) (empty_row 8) new ∙ refl in
    ids_next b n ∙ rw (sym (ids_same a b n before h), sym (row_alone b (22 * n) fits), new, empty_counts) (omega arith)
