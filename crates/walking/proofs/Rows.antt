-- What a record keeps: the table made by calls, its rooms, and a row that holds no more than was given. Assumes nothing.
use mathlib.Core.Path.{◌≡◌, refl, ◌∙◌}
use mathlib.Core.Bool.{Bool, true, false, cond}
use mathlib.Core.List.{List, [], ◌∷◌}
use Prim.Native.Nat.{ℕ, ◌+◌, ◌≤◌, ◌<◌}
use native.Mathlib.Omega.{arith}
use native.Mathlib.Decide.{dec_lt, ℕ_discrete}
use lib.ListN.{length, get_or, set}
use lib.Seq.{sets, set_out, get_or-set_same, get_or-set_other}
use lib.Dec.{eqb, ltb}
use borrow.Author.Tests.{eqb-true, le-ltb, lt-ltb}
use Rattle.lent.proofs.Refusals.{first_clear}
use Rattle.selector.specs.Checks.{row_fits}
use Rattle.table.specs.Tables.{Table}
use Rattle.covered.specs.Covered.{Covered}
use Rattle.covered.specs.Covered.Covered.{entered}
use Rattle.covered.proofs.Reached.{covered_sound, enters_right}
use Rattle.records.specs.declared.Record.{Record}
use Rattle.records.specs.Rows.{count_place, empty_row, with_tag, with_id, with_item, item_over}
use Rattle.records.proofs.Rows.{room_left, item_length}
use Rattle.gather.proofs.Ids.{fits_classes, fits_pseudos, row_fits_lem}
use Rattle.replies.specs.Walking.{walking, subject_of, stamp_of, item_fault, with_fit, entering_verdict, entered_in, enter_after, items_after, table_after}
use Rattle.replies.specs.Memory.{Ready}

-- ---- the table

pub record Tabled (w : List ℕ) (t : Table) : Type 0 where
  pub covered : Covered w t
  pub states : length t.states ≡ 1536
  pub matched : length t.matched ≡ 4096

pub ready_tabled : {w : List ℕ} {t : Table} {items : List ℕ} → Ready w t items → Tabled w t
ready_tabled y = record { covered = y.covered; states = y.states; matched = y.matched }

module _ (w : List ℕ) (t : Table) (items : List ℕ) (y : Tabled w t) (parent : ℕ) where
  pub entered_tabled : entering_verdict (walking w t items) parent ≡ 0 → Tabled w (entered_in (walking w t items) parent)
  entered_tabled e =
      let s = walking w t items in
      let stay = (enters_right w (covered_sound w y.covered) parent (stamp_of s) (subject_of items) e).kept.stay in
      record {
        covered = entered y.covered parent (stamp_of s) (subject_of items) e;
        states = stay.rows ∙ y.states;
        matched = stay.matched_room ∙ y.matched;
      }

  enter_tabled : Tabled w (enter_after (walking w t items) parent)
  unfolding enter_after
  enter_tabled = by (eqb (entering_verdict (walking w t items) parent) 0) refl
    where
      by : (b : Bool) → eqb (entering_verdict (walking w t items) parent) 0 ≡ b → Tabled w (cond b (entered_in (walking w t items) parent) t)
      by true e = entered_tabled (eqb-true (entering_verdict (walking w t items) parent) 0 e)
      by false e = y

-- ---- the row

-- its counts, as given
record Few (row : List ℕ) : Type 0 where
  classes : get_or row 4 0 ≤ 16
  pseudos : get_or row 5 0 ≤ 16

set_most : (l : List ℕ) (i v j n : ℕ) → get_or l j 0 ≤ n → (j ≡ i → v ≤ n) → get_or (set l i v) j 0 ≤ n
set_most l i v j n h g = elim (ℕ_discrete j i) [
  | yes e ↦ elim (dec_lt i (length l)) [
    | yes k ↦ rw (e, get_or-set_same l i v 0 k) (g e)
    | no k ↦ rw (set_out l i v (omega arith)) h
  ]
  | no x ↦ rw (get_or-set_other l i j v 0 x) h
]

few_set : (row : List ℕ) (i v : ℕ) → Few row → (4 ≡ i → v ≤ 16) → (5 ≡ i → v ≤ 16) → Few (set row i v)
few_set row i v f p q = record { classes = set_most row i v 4 16 f.classes p; pseudos = set_most row i v 5 16 f.pseudos q }

-- a word that is no count
few_else : (row : List ℕ) (i v : ℕ) → Few row → (4 ≡ i → ⊥) → (5 ≡ i → ⊥) → Few (set row i v)
few_else row i v f p q = few_set row i v f (λ e. absurd (p e)) (λ e. absurd (q e))

module _ (which id : ℕ) (row : List ℕ) (f : Few row) where
  tag_few : Few (with_tag which id row)
  tag_few = by (eqb which 0)
    where
      by : (b : Bool) → Few (sets row (cond b 0 2) (1 ∷ id ∷ []))
      by true = few_else (set row 0 1) 1 id (few_else row 0 1 f (λ e. omega arith) (λ e. omega arith)) (λ e. omega arith) (λ e. omega arith)
      by false = few_else (set row 2 1) 3 id (few_else row 2 1 f (λ e. omega arith) (λ e. omega arith)) (λ e. omega arith) (λ e. omega arith)

  id_few : get_or row (count_place which) 0 < 16 → Few (with_id 16 which id row)
  id_few = by (eqb which 2)
    where
      by : (b : Bool) → get_or row (cond b 4 5) 0 < 16
          → Few (set (set row (cond b 6 22 + get_or row (cond b 4 5) 0) id) (cond b 4 5) (get_or row (cond b 4 5) 0 + 1))
      by true h =
          few_set (set row (6 + get_or row 4 0) id) 4 (get_or row 4 0 + 1) (few_else row (6 + get_or row 4 0) id f (λ e. omega arith) (λ e. omega arith)) (λ e. omega arith) (λ e. omega arith)
      by false h =
          few_set (set row (22 + get_or row 5 0) id) 5 (get_or row 5 0 + 1) (few_else row (22 + get_or row 5 0) id f (λ e. omega arith) (λ e. omega arith)) (λ e. omega arith) (λ e. omega arith)

  item_few : item_over 16 which row ≡ false → Few (with_item 16 which id row)
  unfolding with_item
  item_few o = elim (dec_lt which 2) [
    | yes h ↦ rw (lt-ltb which 2 h) tag_few
    | no h ↦ let g : 2 ≤ which = omega arith in rw (le-ltb which 2 g) (id_few (room_left 16 which row g o))
  ]

fault_over : (row : List ℕ) (which : ℕ) → item_fault row which ≡ 0 → item_over 16 which row ≡ false
unfolding item_fault
fault_over row which e =
    let (a, f) = first_clear 10 (ltb 3 which) _ (omega arith) e in
    let (b, g) = first_clear 2 (item_over 16 which row) _ (omega arith) f in
    b

-- 38 words, and its counts
record Rowed (row : List ℕ) : Type 0 where
  long : length row ≡ 38
  fits : row_fits 16 row 0 ≡ true

fit_rowed : (row : List ℕ) (which id : ℕ) → Rowed row → Rowed (with_fit row which id)
unfolding with_fit
fit_rowed row which id y = by (eqb (item_fault row which) 0) refl
  where
    by : (b : Bool) → eqb (item_fault row which) 0 ≡ b → Rowed (cond b (with_item 16 which id row) row)
    by true e =
        let before : Few row = record { classes = fits_classes 16 row 0 y.fits; pseudos = fits_pseudos 16 row 0 y.fits } in
        let after = item_few which id row before (fault_over row which (eqb-true (item_fault row which) 0 e)) in
        record {
          long = item_length 16 which id row ∙ y.long;
          fits = row_fits_lem 16 (with_item 16 which id row) 0 after.classes after.pseudos;
        }
    by false e = y

-- ---- both

module _ {w : List ℕ} {t : Table} {items : List ℕ} (y : Ready w t items) (r : Record) where
  table_after_lem : Tabled w (table_after (walking w t items) r)
  unfolding table_after
  table_after_lem = by (eqb r.kind 10)
    where
      by : (b : Bool) → Tabled w (cond b (enter_after (walking w t items) r.first) t)
      by true = enter_tabled w t items (ready_tabled y) r.first
      by false = ready_tabled y

  items_after_lem : Rowed (items_after (walking w t items) r)
  unfolding items_after
  items_after_lem = by (eqb r.kind 9) (eqb r.kind 10)
    where
      now_is : Rowed items
      now_is = record { long = y.row; fits = y.fits }

      by : (a b : Bool) → Rowed (cond a (with_fit items r.first r.second) (cond b (empty_row 16) items))
      by true b = fit_rowed items r.first r.second now_is
      by false true = record { long = refl; fits = refl }
      by false false = now_is

  -- what a record leaves
  pub ready_after : Ready w (table_after (walking w t items) r) (items_after (walking w t items) r)
  ready_after = record {
    covered = table_after_lem.covered;
    states = table_after_lem.states;
    matched = table_after_lem.matched;
    row = items_after_lem.long;
    fits = items_after_lem.fits;
  }
