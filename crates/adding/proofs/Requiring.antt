-- Laws of one requirement more: the last row is changed, and the ids with it. Assumes nothing.
use mathlib.Core.Path.{◌≡◌, refl, sym, ap, ◌∙◌}
use mathlib.Core.Bool.{Bool, true, false, not, ◌&&◌, true≢false}
use mathlib.Core.List.{List, [], ◌∷◌, ◌++◌, append-nil}
use Prim.Native.Nat.{ℕ, zero, suc, ◌+◌, ◌-◌, ◌*◌, ◌/◌, ◌≤◌, ◌<◌}
use native.Mathlib.Nat.{zero-add}
use native.Mathlib.Omega.{arith}
use native.Mathlib.Decide.{dec_lt, ℕ_discrete}
use lib.ListN.{length, get_or, set, take, drop, replicate, length-set, length-drop, length-append, take-append-drop}
use lib.Seq.{sets, sets-eq, length-sets, length-take-le, take_all, take-take, take-set-lt, drop_at, get_or-set_same, get_or-set_other}
use lib.Dec.{ltb, eqb}
use borrow.Author.Tests.{le-ltb, lt-ltb, eq-eqb, ne_eqb, ltb-true}
use Rattle.theory.specs.Lists.{total}
use Rattle.theory.proofs.Lists.{and_right}
use Rattle.lent.proofs.Placing.{sets_after}
use Rattle.selector.specs.Tags.{as_sets}
use Rattle.selector.specs.Rows.{row_at, step_at, selector_of}
use Rattle.selector.specs.Checks.{row_fits}
use Rattle.selector.specs.Weighing.{counts_of}
use Rattle.sheet.specs.Laying.{ids_held}
use Rattle.records.specs.Rows.{tag_place, count_place, with_tag, with_id, with_item, item_over}
use Rattle.records.proofs.Rows.{room_left, item_length}
use Rattle.lent.specs.All.{all_below}
use Rattle.std.specs.Prelude.{Result, Ok, Err}
use Rattle.lent.specs.declared.Refusal.{Refusal}
use Rattle.lent.specs.declared.Refusal.TheVariants.{OverSize, BadRecord}
use Rattle.lent.specs.Refusals.{number_of, first_of}
use Rattle.lent.proofs.Refusals.{first_hit, first_pass, first_end}
use Rattle.sheet.specs.Layout.{ids_in}
use Rattle.given.specs.Given.{Group, given}
use Rattle.given.specs.Leaves.{Ids}
use Rattle.gather.specs.declared.Filled.{Filled}
use Rattle.gather.specs.Opened.{group, rule_count, last_of, last_row, ids_given, with_requirement}
use Rattle.gather.specs.Making.{group_of, in_step, in_group, requirement_faults}
use Rattle.gather.specs.Memory.{filled_of, open_of, Sound, offset_of, Adds, kind_in, origin_in}
use Rattle.gather.proofs.Opening.{open_nothing, open_direct, open_group, kinds, adds_refused, adds_accepted, rules_counted, steps_room}
use Rattle.gather.proofs.Filling.{last_in}
use Rattle.gather.proofs.Ids.{drop_take, row_alone, fits_classes, fits_pseudos, row_fits_lem, fits_same, fits_read, ids_same, ids_next, row_before}

-- ---- a row with one item more

tag_low : (which : ℕ) → tag_place which ≤ 2
tag_low which = elim (ℕ_discrete which 0) [
  | yes e ↦ rw (eq-eqb which 0 e) (omega arith)
  | no n ↦ rw (ne_eqb which 0 n) (omega arith)
]

module _ (which id : ℕ) (row : List ℕ) (r : length row ≡ 22) (h : row_fits 8 row 0 ≡ true) where
  -- a tag leaves the counts
  tag_fits : row_fits 8 (with_tag which id row) 0 ≡ true
  tag_fits =
      row_fits_lem 8 (with_tag which id row) 0
      (rw (sets_after row (tag_place which) (1 ∷ id ∷ []) 4 (omega (arith, tag_low which))) (fits_classes 8 row 0 h))
      (rw (sets_after row (tag_place which) (1 ∷ id ∷ []) 5 (omega (arith, tag_low which))) (fits_pseudos 8 row 0 h))

  -- an id raises its count, and leaves the other
  count_put : (p c v : ℕ) → c < 6 → get_or (set (set row p id) c v) c 0 ≡ v
  count_put p c v k = get_or-set_same (set row p id) c v 0 (rw length-set (omega arith))

  count_kept : (p c d v : ℕ) → 6 ≤ p → d < 6 → (d ≡ c → ⊥) → get_or (set (set row p id) c v) d 0 ≡ get_or row d 0
  count_kept p c d v j k n = get_or-set_other (set row p id) c d v 0 n ∙ get_or-set_other row p d id 0 (λ e. omega arith)

  id_fits : get_or row (count_place which) 0 < 8 → row_fits 8 (with_id 8 which id row) 0 ≡ true
  id_fits l = elim (ℕ_discrete which 2) [
    | yes e ↦ let k : get_or row 4 0 < 8 = rw (eq-eqb which 2 e) at l in
        rw (eq-eqb which 2 e)
        (row_fits_lem 8 (set (set row (6 + get_or row 4 0) id) 4 (get_or row 4 0 + 1)) 0
        (rw (count_put (6 + get_or row 4 0) 4 (get_or row 4 0 + 1) (omega arith)) (omega arith))
        (rw (count_kept (6 + get_or row 4 0) 4 5 (get_or row 4 0 + 1) (omega arith) (omega arith) (λ q. omega arith)) (fits_pseudos 8 row 0 h)))
    | no n ↦ let k : get_or row 5 0 < 8 = rw (ne_eqb which 2 n) at l in
        rw (ne_eqb which 2 n)
        (row_fits_lem 8 (set (set row (14 + get_or row 5 0) id) 5 (get_or row 5 0 + 1)) 0
        (rw (count_kept (14 + get_or row 5 0) 5 4 (get_or row 5 0 + 1) (omega arith) (omega arith) (λ q. omega arith)) (fits_classes 8 row 0 h))
        (rw (count_put (14 + get_or row 5 0) 5 (get_or row 5 0 + 1) (omega arith)) (omega arith)))
  ]

  pub item_fits : item_over 8 which row ≡ false → row_fits 8 (with_item 8 which id row) 0 ≡ true
  unfolding with_item
  item_fits e = elim (dec_lt which 2) [
    | yes g ↦ rw (lt-ltb which 2 g) tag_fits
    | no g ↦ rw (le-ltb which 2 (omega arith)) (id_fits (room_left 8 which row (omega arith) e))
  ]

one_row : (row : List ℕ) → row_fits 8 row 0 ≡ true → (1 ≤ 8) × (all_below 1 (λ (j : ℕ). row_fits 8 row (22 * j)) ≡ true)
unfolding all_below
one_row row e = (omega arith, e)

-- ---- the ids of the first n rows

abbrev pub row_ids : List ℕ → ℕ → ℕ
row_ids l n = ids_held (selector_of l [] n)

abbrev pub RowsFit : List ℕ → ℕ → Type 0
RowsFit l n = (k : ℕ) → k < n → row_fits 8 l (22 * k) ≡ true

ids_none : (l : List ℕ) → row_ids l 0 ≡ 0
unfolding selector_of ids_held total
ids_none l = refl

-- the last row apart
module _ (l : List ℕ) (n : ℕ) (row : List ℕ) (e : take 22 (drop (22 * n) l) ≡ row) (h : row_fits 8 row 0 ≡ true) where
  ids_last : row_ids l (n + 1) ≡ row_ids l n + row_ids row 1
  ids_last =
      let f : row_fits 8 l (22 * n) ≡ true = fits_read l (22 * n) row e ∙ h in
      let s : row_at 8 row 0 ≡ row_at 8 l (22 * n) = rw (← e) (row_alone l (22 * n) f) in
      let one : row_ids row 1 ≡ (counts_of (step_at row 0)).classes + (counts_of (step_at row 0)).pseudos = ids_next row 0 ∙ rw (ids_none row) (zero-add _) in
      ids_next l n
      ∙ ap (λ t. row_ids l n + ((counts_of (as_sets t)).classes + (counts_of (as_sets t)).pseudos)) (sym s)
      ∙ ap (λ x. row_ids l n + x) (sym one)

-- ---- the filled rows of a longer list

module _ (l : List ℕ) (s : ℕ) (room : 22 * s ≤ length l) where
  rows_length : length (take (22 * s) l) ≡ 22 * s
  rows_length = length-take-le (22 * s) l room

  pub last_row_lem : 1 ≤ s → drop (length (take (22 * s) l) - 22) (take (22 * s) l) ≡ take 22 (drop (22 * s - 22) l)
  last_row_lem h =
      let z : 22 * s ≡ 22 * s - 22 + 22 = omega arith in
      rw rows_length (ap (λ n. drop (22 * s - 22) (take n l)) z ∙ drop_take (22 * s - 22) 22 l)

  row_filled : (k : ℕ) → k < s → take 22 (drop (22 * k) (take (22 * s) l)) ≡ take 22 (drop (22 * k) l)
  row_filled k h =
      let z : 22 * s ≡ 22 * k + (22 * s - 22 * k) = omega arith in
      ap (λ n. take 22 (drop (22 * k) (take n l))) z
      ∙ ap (take 22) (drop_take (22 * k) (22 * s - 22 * k) l)
      ∙ take-take 22 (22 * s - 22 * k) (drop (22 * k) l) (omega arith)

  pub filled_ids : RowsFit l s → row_ids (take (22 * s) l) (length (take (22 * s) l) / 22) ≡ row_ids l s
  filled_ids fit =
      let n = rows_length in
      let z : length (take (22 * s) l) / 22 ≡ s = omega arith in
      rw z (sym (ids_same l (take (22 * s) l) s (λ k h. sym (row_filled k h)) fit))

-- the last of rows that fit does
last_fits : (l : List ℕ) (s : ℕ) → 1 ≤ s → RowsFit l s → (row : List ℕ) → take 22 (drop (22 * s - 22) l) ≡ row → row_fits 8 row 0 ≡ true
last_fits l s one fit row e = let z : 22 * (s - 1) ≡ 22 * s - 22 = omega arith in sym (fits_read l (22 * s - 22) row e) ∙ rw z at (fit (s - 1) (omega arith))

-- ---- the last row replaced

take_sets : (n : ℕ) (l : List ℕ) (a : ℕ) (x : List ℕ) → a + length x ≤ n → take n (sets l a x) ≡ sets (take n l) a x
take_sets n l a [] h = refl
take_sets n l a (v ∷ x) h = take_sets n (set l a v) (suc a) x (omega arith) ∙ ap (λ k. sets k (suc a) x) (take-set-lt n l a v (omega arith))

module _ (l : List ℕ) (s : ℕ) (room : 22 * s ≤ length l) (one : 1 ≤ s) (x : List ℕ) (size : length x ≡ 22) where
  abbrev replaced : List ℕ
  replaced = sets l (22 * s - 22) x

  spelled : replaced ≡ take (22 * s - 22) l ++ x ++ drop (22 * s - 22 + length x) l
  spelled = sets-eq x l (22 * s - 22) (omega arith)

  front : length (take (22 * s - 22) l) ≡ 22 * s - 22
  front = length-take-le (22 * s - 22) l (omega arith)

  both : length (take (22 * s - 22) l ++ x) ≡ 22 * s
  both = omega (arith, length-append (take (22 * s - 22) l) x, front)

  row_kept : (k : ℕ) → k < s - 1 → take 22 (drop (22 * k) l) ≡ take 22 (drop (22 * k) replaced)
  row_kept k h =
      let a = take (22 * s - 22) l in
      let n = front in
      let m = both in
      ap (λ t. take 22 (drop (22 * k) t)) (sym (take-append-drop (22 * s - 22) l))
      ∙ row_before a (drop (22 * s - 22) l) (22 * k) (omega arith)
      ∙ sym (row_before a x (22 * k) (omega arith))
      ∙ sym (row_before (a ++ x) (drop (22 * s - 22 + length x) l) (22 * k) (omega arith))
      ∙ ap (λ t. take 22 (drop (22 * k) t)) (sym spelled)

  pub row_put : take 22 (drop (22 * s - 22) replaced) ≡ x
  row_put =
      let a = take (22 * s - 22) l in
      let m = both in
      ap (λ t. take 22 (drop (22 * s - 22) t)) spelled
      ∙ row_before (a ++ x) (drop (22 * s - 22 + length x) l) (22 * s - 22) (omega arith)
      ∙ ap (take 22) (drop_at a x (22 * s - 22) front)
      ∙ take_all 22 x (omega arith)

  last_place : 22 * (s - 1) ≡ 22 * s - 22
  last_place = omega arith

  module _ (fit : RowsFit l s) (h : row_fits 8 x 0 ≡ true) where
    pub put_fits : RowsFit replaced s
    put_fits k g = elim (dec_lt k (s - 1)) [
      | yes p ↦ sym (fits_same l replaced (22 * k) (row_kept k p)) ∙ fit k g
      | no p ↦ let z : 22 * k ≡ 22 * s - 22 = omega arith in rw z (fits_read replaced (22 * s - 22) x row_put ∙ h)
    ]

    -- the ids before, and after
    module _ (row : List ℕ) (e : take 22 (drop (22 * s - 22) l) ≡ row) where
      ids_before : row_ids l s ≡ row_ids l (s - 1) + row_ids row 1
      ids_before =
          let z : s ≡ s - 1 + 1 = omega arith in
          ap (row_ids l) z ∙ ids_last l (s - 1) row (rw last_place e) (last_fits l s one fit row e)

      ids_after : row_ids replaced s ≡ row_ids l (s - 1) + row_ids x 1
      ids_after =
          let z : s ≡ s - 1 + 1 = omega arith in
          ap (row_ids replaced) z
          ∙ ids_last replaced (s - 1) x (rw last_place row_put) h
          ∙ ap (λ n. n + row_ids x 1) (sym (ids_same l replaced (s - 1) row_kept (λ k g. fit k (omega arith))))

      pub ids_changed : row_ids replaced s ≡ row_ids l s - row_ids row 1 + row_ids x 1
      ids_changed = omega (arith, ids_before, ids_after)

      pub ids_within : row_ids row 1 ≤ row_ids l s
      ids_within = omega (arith, ids_before)

-- ---- the open group's last step

module _ (f : Filled) (m : Group) (s : Sound f m) where
  ids_filled : f.ids ≡ row_ids m.steps f.steps
  unfolding ids_given
  ids_filled = s.ids ∙ filled_ids m.steps f.steps (steps_room f m s) s.rows

  -- the code's test is the definition's
  rule_tested : (ltb 0 f.rules && ltb 0 (get_or m.rules (3 * f.rules - 3) 0)) ≡ (ltb 0 f.rules && ltb 0 (last_of (filled_of f m) 0))
  rule_tested = elim (dec_lt 0 f.rules) [
    | yes h ↦ let z : 3 * f.rules - 3 + 0 ≡ 3 * f.rules - 3 = omega arith in
        rw (rw z at (last_in m.rules f.rules 0 (omega (arith, s.room.rules, s.rules)) h (omega arith)))
    | no h ↦ rw (le-ltb 0 f.rules (omega arith))
  ]

  pub step_tested : (b : Bool) → b ≡ (eqb (kind_in f.opening) 2 && (ltb 0 f.rules && ltb 0 (get_or m.rules (3 * f.rules - 3) 0))) → b ≡ in_step (open_of f m)
  step_tested b e = e ∙ kinds f.opening
      (λ k. rw (open_nothing f m k, eqb_is (kind_in f.opening) 0 k))
      (λ k. rw (open_direct f m k, eqb_is (kind_in f.opening) 1 k))
      (λ k. rw (open_group f m k, rules_counted f m s, eqb_is (kind_in f.opening) 2 k) rule_tested)
    where
      eqb_is : (k n : ℕ) → k ≡ n → eqb k 2 ≡ eqb n 2
      eqb_is k n e = rw e

  module _ (i : in_step (open_of f m) ≡ true) where
    pub step_kind : kind_in f.opening ≡ 2
    step_kind = kinds f.opening
        (λ k. absurd (true≢false (sym i ∙ rw (open_nothing f m k))))
        (λ k. absurd (true≢false (sym i ∙ rw (open_direct f m k))))
        (λ k. k)

    step_last : 0 < last_of (filled_of f m) 0
    step_last = ltb-true 0 (last_of (filled_of f m) 0) (and_right (ltb 0 (rule_count (filled_of f m))) _ (rw (open_group f m step_kind) at i))

    pub step_there : 1 ≤ f.steps
    step_there = omega (arith, step_last, s.last_within)

    -- its row, copied
    last_size : length (take 22 (drop (22 * f.steps - 22) m.steps)) ≡ 22
    last_size = length-take-le 22 (drop (22 * f.steps - 22) m.steps) (omega (arith, length-drop (22 * f.steps - 22) m.steps, steps_room f m s, step_there))

    pub row_copied : (at : ℕ) (part row : List ℕ) → at ≡ 22 * f.steps - 22 → part ≡ take (at + 22 - at) (drop at m.steps) → row ≡ sets (replicate 22 0) 0 part
        → row ≡ take 22 (drop (22 * f.steps - 22) m.steps)
    row_copied at part row a p e =
        let z : 22 * f.steps - 22 + 22 - (22 * f.steps - 22) ≡ 22 = omega arith in
        let q : part ≡ take 22 (drop (22 * f.steps - 22) m.steps) = p ∙ rw (a, z) in
        let k : length part ≡ 22 = ap length q ∙ last_size in
        e ∙ sets-eq part (replicate 22 0) 0 (omega (arith, k)) ∙ rw k (append-nil part) ∙ q

    module _ (row : List ℕ) (e : row ≡ take 22 (drop (22 * f.steps - 22) m.steps)) where
      pub row_last : row ≡ last_row (filled_of f m)
      row_last = e ∙ sym (last_row_lem m.steps f.steps (steps_room f m s) step_there)

      pub row_sound : row_fits 8 row 0 ≡ true
      row_sound = last_fits m.steps f.steps step_there s.rows row (sym e)

      row_size : length row ≡ 22
      row_size = ap length e ∙ last_size

      pub row_asked : (1 ≤ 8) × (all_below 1 (λ (j : ℕ). row_fits 8 row (22 * j)) ≡ true)
      row_asked = one_row row row_sound

      pub ids_less : (a : ℕ) → Ids row 1 a → a ≤ f.ids
      ids_less a p = omega (arith, p.same, ids_filled, ids_within m.steps f.steps (steps_room f m s) step_there row row_size s.rows row_sound row (sym e))

      module _ (w : List ℕ) (which id : ℕ) (k : which ≤ 3) (r : Result Filled Refusal) where
        -- over its size
        pub item_refused : item_over 8 which row ≡ true → r ≡ Err OverSize
            → Adds (first_of (requirement_faults w (open_of f m) which id)) f m (in_group (with_requirement which id) (open_of f m)) r m
        item_refused o t =
            adds_refused s
            (first_pass 10 2 (not (in_step (open_of f m))) _ _ refl (rw i)
            (first_pass 10 2 (ltb 3 which) _ _ refl (le-ltb 3 which k)
            (first_hit 2 (item_over 8 which row) _ _ (rw (open_group f m step_kind, row_last)) o)))
            t refl refl

      module _ (which id : ℕ) (o : item_over 8 which row ≡ false) (x : List ℕ) (put : x ≡ with_item 8 which id row) where
        put_sound : row_fits 8 x 0 ≡ true
        put_sound = rw put (item_fits which id row row_size row_sound o)

        pub put_asked : (1 ≤ 8) × (all_below 1 (λ (j : ℕ). row_fits 8 x (22 * j)) ≡ true)
        put_asked = one_row x put_sound

        put_size : length x ≡ 22
        put_size = ap length put ∙ item_length 8 which id row ∙ row_size

        abbrev changed : Group
        changed = given m.rules (sets m.steps (22 * f.steps - 22) x) m.combinators m.properties m.kinds m.numbers

        changed_is : filled_of f changed ≡ with_requirement which id (filled_of f m)
        unfolding with_requirement
        changed_is =
            let l = m.steps in
            let n : 22 * f.steps - 22 ≡ length (take (22 * f.steps) l) - 22 = omega (arith, rows_length l f.steps (steps_room f m s)) in
            ap (λ t. given (take (3 * f.rules) m.rules) t (take f.combinators m.combinators) (take f.entries m.properties) (take f.entries m.kinds) (take f.entries m.numbers))
            (take_sets (22 * f.steps) l (22 * f.steps - 22) x (omega (arith, put_size, step_there))
            ∙ ap (λ j. sets (take (22 * f.steps) l) j x) n
            ∙ ap (sets (take (22 * f.steps) l) (length (take (22 * f.steps) l) - 22)) (put ∙ ap (with_item 8 which id) row_last))

        changed_room_lem : 22 * f.steps ≤ length (sets m.steps (22 * f.steps - 22) x)
        changed_room_lem = rw length-sets (steps_room f m s)

        changed_rows : RowsFit (sets m.steps (22 * f.steps - 22) x) f.steps
        changed_rows = put_fits m.steps f.steps (steps_room f m s) step_there x put_size s.rows put_sound

        module _ (a b : ℕ) (p : Ids row 1 a) (q : Ids x 1 b) where
          ids_after_are : ids_given (filled_of f changed) ≡ row_ids (sets m.steps (22 * f.steps - 22) x) f.steps
          unfolding ids_given
          ids_after_are = filled_ids (sets m.steps (22 * f.steps - 22) x) f.steps changed_room_lem changed_rows

          ids_sum : f.ids - a + b ≡ ids_given (filled_of f changed)
          ids_sum =
              omega (arith, p.same, q.same, ids_filled, ids_after_are, ids_changed m.steps f.steps (steps_room f m s) step_there x put_size s.rows put_sound row (sym e))

          pub ids_asked : f.ids - a + b ≡ ids_given (with_requirement which id (filled_of f m))
          ids_asked = ids_sum ∙ ap ids_given changed_is

          module _ (w : List ℕ) (k : which ≤ 3) (r : Result Filled Refusal) (u : ℕ) (v : u ≡ ids_in w) where
            last_test : ltb 8192 (u + (f.ids - a + b)) ≡ ltb 8192 (ids_in w + ids_given (with_requirement which id (group_of (open_of f m))))
            last_test = rw (v, ids_asked, open_group f m step_kind)

            -- too many ids
            pub ids_refused : 8192 < u + (f.ids - a + b) → r ≡ Err OverSize
                → Adds (first_of (requirement_faults w (open_of f m) which id)) f m (in_group (with_requirement which id) (open_of f m)) r m
            ids_refused h t =
                adds_refused s
                (first_pass 10 2 (not (in_step (open_of f m))) _ _ refl (rw i)
                (first_pass 10 2 (ltb 3 which) _ _ refl (le-ltb 3 which k)
                (first_pass 2 2 (item_over 8 which row) _ _ (rw (open_group f m step_kind, row_last)) o
                (first_hit 2 (ltb 8192 (u + (f.ids - a + b))) _ _ last_test (lt-ltb 8192 (u + (f.ids - a + b)) h)))))
                t refl refl

            abbrev counted : Filled
            counted = record { opening = f.opening; rules = f.rules; steps = f.steps; combinators = f.combinators; entries = f.entries; ids = f.ids - a + b }

            changed_sound : u + (f.ids - a + b) ≤ 8192 → Sound counted changed
            changed_sound h = record {
              room = record {
                rules = s.room.rules;
                steps = length-sets m.steps (22 * f.steps - 22) x ∙ s.room.steps;
                combinators = s.room.combinators;
                properties = s.room.properties;
                kinds = s.room.kinds;
                numbers = s.room.numbers;
              };
              rules = s.rules;
              steps = s.steps;
              last_steps = s.last_steps;
              last_within = s.last_within;
              last_combinators = s.last_combinators;
              combinators = s.combinators;
              entries = s.entries;
              rows = changed_rows;
              ids = ids_sum;
              ids_fit_lem = omega arith;
            }

            pub required : u + (f.ids - a + b) ≤ 8192 → r ≡ Ok counted → (l : List ℕ) → l ≡ sets m.steps (22 * f.steps - 22) x
                → Adds (first_of (requirement_faults w (open_of f m) which id)) f m (in_group (with_requirement which id) (open_of f m)) r
                (given m.rules l m.combinators m.properties m.kinds m.numbers)
            required h t l z =
                rw z
                (adds_accepted (changed_sound h)
                (first_pass 10 0 (not (in_step (open_of f m))) _ _ refl (rw i)
                (first_pass 10 0 (ltb 3 which) _ _ refl (le-ltb 3 which k)
                (first_pass 2 0 (item_over 8 which row) _ _ (rw (open_group f m step_kind, row_last)) o
                (first_pass 2 0 (ltb 8192 (u + (f.ids - a + b))) _ _ last_test (le-ltb 8192 (u + (f.ids - a + b)) h) first_end))))
                (open_group counted changed step_kind ∙ rw (open_group f m step_kind) (ap (group (origin_in f.opening)) changed_is))
                t)

-- ---- without a step, or of no such kind

module _ (f : Filled) (m : Group) (s : Sound f m) (w : List ℕ) (which id : ℕ) (r : Result Filled Refusal) (b : Bool)
    (e : b ≡ (eqb (kind_in f.opening) 2 && (ltb 0 f.rules && ltb 0 (get_or m.rules (3 * f.rules - 3) 0)))) where
  pub stepless : b ≡ false → r ≡ Err (BadRecord 0)
      → Adds (first_of (requirement_faults w (open_of f m) which id)) f m (in_group (with_requirement which id) (open_of f m)) r m
  stepless h t = adds_refused s (first_hit 10 (not (in_step (open_of f m))) _ _ refl (rw (← step_tested f m s b e, h))) t refl refl

  pub which_refused : {x : Refusal} → b ≡ true → 3 < which → r ≡ Err x → number_of x ≡ 10 → offset_of (Err x) ≡ 0
      → Adds (first_of (requirement_faults w (open_of f m) which id)) f m (in_group (with_requirement which id) (open_of f m)) r m
  which_refused h k t n z =
      adds_refused s
      (first_pass 10 10 (not (in_step (open_of f m))) _ _ refl (rw (← step_tested f m s b e, h))
      (first_hit 10 (ltb 3 which) _ _ refl (lt-ltb 3 which k)))
      t n z

-- ---- the test's ways out

pub other_kind : (k : ℕ) (t : Bool) → (k ≡ 2 → ⊥) → false ≡ (eqb k 2 && t)
other_kind k t h = rw (ne_eqb k 2 h)

pub no_rule : (k n : ℕ) (t : Bool) → k ≡ 2 → n ≡ 0 → false ≡ (eqb k 2 && (ltb 0 n && t))
no_rule k n t e z = rw (e, z)

pub rule_there : (k n v at : ℕ) (l : List ℕ) → k ≡ 2 → (n ≡ 0 → ⊥) → v ≡ get_or l at 0 → ltb 0 v ≡ (eqb k 2 && (ltb 0 n && ltb 0 (get_or l at 0)))
rule_there k n v at l e h q = let g : 0 < n = positive n h in rw (e, lt-ltb 0 n g, q)
  where
    positive : (n : ℕ) → (n ≡ 0 → ⊥) → 0 < n
    positive zero h = absurd (h refl)
    positive (suc n) h = omega arith
