-- What a sheet of good shape holds, taken together: its lists stand end to end, and all of it is good to be added to another sheet. Assumes nothing.
use mathlib.Core.Path.{◌≡◌, refl, sym, ap, ap₂, ◌∙◌}
use mathlib.Core.Bool.{true}
use mathlib.Core.Logic.{inl, inr}
use mathlib.Core.List.Memᴰ
use mathlib.Core.List.{List, [], ◌∷◌, ◌++◌, flat_map}
use Prim.Native.Nat.{ℕ, zero, suc, ◌+◌, ◌-◌, ◌*◌, ◌≤◌, ◌<◌}
use native.Mathlib.Nat.{zero-add, mul-suc}
use native.Mathlib.Numerals.{add-one}
use native.Mathlib.Omega.{arith}
use lib.ListN.{length, get_or, drop, length-drop}
use lib.Seq.{length-take-le}
use borrow.Author.Tests.{le-leb}
use Rattle.theory.specs.Lists.{◌∈◌, ascends, at_most, spread, sum_below, total}
use Rattle.theory.specs.Paths.{Part, Selector}
use Rattle.theory.proofs.Lists.{and_left, and_right, flat_map_append}
use Rattle.theory.proofs.Spreads.{length_spread, map_spread, spread_more, spread_snoc, flat_map_one}
use Rattle.lent.specs.Pool.{start_of}
use Rattle.lent.proofs.Pool.{Rising}
use Rattle.selector.specs.Tags.{Tags}
use Rattle.selector.specs.Rows.{row_at}
use Rattle.selector.specs.Weighing.{counts_of}
use Rattle.sheet.specs.Layout
use Rattle.sheet.specs.Sheets.{between, rule_step_ends, rule_entry_ends, style_entry_ends, part_at, entry_at, rule_at, style_at, sheet_of}
use Rattle.sheet.specs.Shape.{ids_at}
use Rattle.sheet.specs.Laying.{rule_entries, style_entries, steps_of, ids_held}
use Rattle.sheet.proofs.Shaped.{ListShaped, StepShaped, PoolShaped, Shaped, step_end_within, entry_end_within, style_entry_end_within}
use Rattle.laid.proofs.Shaping.{GoodEntries, GoodStep, GoodStyle, GoodRule, Good, rule_fits, style_fits, shaped_ended}

-- ---- a list spread out

-- its members
pub spread_in : {A : Type 0} (f : ℕ → A) (k n : ℕ) (x : A) → x ∈ spread f k n → (i : ℕ) × (k ≤ i) × (i < k + n) × (x ≡ f i)
spread_in f k zero x m = absurd (Memᴰ.not-nil m)
spread_in f k (suc n) x m = elim (Memᴰ.cases_cons m) [
  | inl e ↦ (k, omega arith, omega arith, e)
  | inr i ↦ let (j, p, q, e) = spread_in f (suc k) n x i in (j, omega arith, omega arith, e)
]

pub most_spread : (limit : ℕ) (f : ℕ → ℕ) (k n : ℕ) → ((i : ℕ) → k ≤ i → i < k + n → f i ≤ limit) → at_most limit (spread f k n) ≡ true
unfolding at_most
most_spread limit f k zero h = refl
most_spread limit f k (suc n) h = rw (le-leb (f k) limit (h k (omega arith) (omega arith))) (most_spread limit f (suc k) n (λ i p q. h i (omega arith) (omega arith)))

pub first_suc : {A : Type 0} (f : ℕ → A) (n : ℕ) → spread f 0 (suc n) ≡ spread f 0 n ++ f n ∷ []
first_suc f n = rw (add-one n, zero-add n) at (spread_snoc f 0 n)

-- a measure of lists that adds up, of all rows end to end
pub sum_flat : {A B : Type 0} (size : List B → ℕ) (g : A → List B) (f : ℕ → A) (n : ℕ) → size [] ≡ 0 → ((l m : List B) → size (l ++ m) ≡ size l + size m)
    → size (flat_map g (spread f 0 n)) ≡ sum_below (λ k. size (g (f k))) n
unfolding sum_below
sum_flat size g f zero z h = unfold flat_map in z
sum_flat size g f (suc n) z h =
    rw (first_suc f n, flat_map_append g (spread f 0 n) (f n ∷ []), h (flat_map g (spread f 0 n)) (flat_map g (f n ∷ [])), flat_map_one g (f n))
    (ap (λ x. x + size (g (f n))) (sum_flat size g f n z h))

-- ---- lists end to end

-- where list k is what f gives between its ends, all of them are what f gives up to the last end
pub ends_flat : {A B : Type 0} (g : B → List A) (b : ℕ → B) (f : ℕ → A) (ends : ℕ → ℕ) (n : ℕ) → ((k : ℕ) → g (b k) ≡ between f ends k) → Rising n ends
    → flat_map g (spread b 0 n) ≡ spread f 0 (start_of ends n)
unfolding flat_map start_of
ends_flat g b f ends zero h up = refl
ends_flat g b f ends (suc n) h up =
    let r : start_of ends n ≤ ends n = up n (omega arith) in
    let z : ends n ≡ start_of ends n + (ends n - start_of ends n) = omega arith in
    ap (flat_map g) (first_suc b n)
    ∙ flat_map_append g (spread b 0 n) (b n ∷ [])
    ∙ ap₂ ◌++◌ (ends_flat g b f ends n h (λ k l. up k (omega arith))) (flat_map_one g (b n) ∙ h n)
    ∙ sym (rw (zero-add (start_of ends n)) at (spread_more f 0 (start_of ends n) (ends n - start_of ends n)))
    ∙ ap (spread f 0) (sym z)

-- where no list has more than `size` elements
ends_few : (ends : ℕ → ℕ) (size n : ℕ) → ((k : ℕ) → k < n → ListShaped ends size k) → start_of ends n ≤ size * n
unfolding start_of
ends_few ends size zero h = omega arith
ends_few ends size (suc n) h = omega (arith, mul-suc size n, (h n (omega arith)).few, ends_few ends size n (λ k l. h k (omega arith)))

-- ---- entries

-- those of a list in a pool of good shape
good_between : (v : List ℕ) (base room n : ℕ) → PoolShaped v base room n → (ends : ℕ → ℕ) (k : ℕ) → start_of ends k ≤ ends k → ends k ≤ n
    → GoodEntries (between (entry_at v base room) ends k)
unfolding entry_at
good_between v base room n p ends k up h =
    let a = start_of ends k in
    record {
      properties_fit_lem = rw map_spread (most_spread 65535 (λ e. get_or v (base + e) 0) a (ends k - a) (λ i l u. p.properties i (omega arith)));
      kinds_fit_lem = rw map_spread (most_spread 3 (λ e. get_or v (base + room + e) 0) a (ends k - a) (λ i l u. p.kinds i (omega arith)));
    }

-- ---- ids

pub ids_append : (l m : Selector Tags) → ids_held (l ++ m) ≡ ids_held l + ids_held m
unfolding ids_held total
ids_append [] m = omega arith
ids_append (p ∷ l) m = omega (arith, ids_append l m)

ids_one : (p : Part Tags) → ids_held (p ∷ []) ≡ length p.step.classes + length p.step.pseudos
unfolding ids_held total counts_of
ids_one p = omega arith

-- a row has as many as its counts say
module _ {v : List ℕ} {s : ℕ} (t : StepShaped v s) (room : Layout.step_place s + 23 ≤ length v) where
  row_classes : length (row_at 8 v (Layout.step_place s)).classes ≡ get_or v (Layout.step_place s + 4) 0
  unfolding row_at
  row_classes = let few = t.classes in length-take-le (get_or v (Layout.step_place s + 4) 0) (drop (Layout.step_place s + 6) v) (rw length-drop (omega arith))

  row_pseudos : length (row_at 8 v (Layout.step_place s)).pseudos ≡ get_or v (Layout.step_place s + 5) 0
  unfolding row_at
  row_pseudos = let few = t.pseudos in length-take-le (get_or v (Layout.step_place s + 5) 0) (drop (Layout.step_place s + 14) v) (rw length-drop (omega arith))

module _ {v : List ℕ} (s : Shaped v) where
  step_room : (k : ℕ) → k < Layout.steps_in v → Layout.step_place k + 23 ≤ length v
  step_room k h = omega (arith, s.steps, s.room)

  pub first_ids : (n : ℕ) → n ≤ Layout.steps_in v → ids_held (spread (part_at v) 0 n) ≡ sum_below (ids_at v) n
  unfolding sum_below part_at
  first_ids zero h = unfold ids_held total in refl
  first_ids (suc n) h =
      let t = s.each_step n h in
      rw (first_suc (part_at v) n, ids_append (spread (part_at v) 0 n) (part_at v n ∷ []), ids_one (part_at v n), row_classes t (step_room n h), row_pseudos t (step_room n h))
      (ap (λ x. x + ids_at v n) (first_ids n (omega arith)))

  -- ---- the whole

  pub steps_all : steps_of (sheet_of v).rules ≡ spread (part_at v) 0 (Layout.steps_in v)
  unfolding sheet_of rule_at
  steps_all = rw s.steps_end at (ends_flat (λ r. r.selector) (rule_at v) (part_at v) (rule_step_ends v) (Layout.rules_in v) (λ k. refl) (λ k h. (s.each_rule k h).steps.up))

  pub entries_all : rule_entries (sheet_of v).rules ≡ spread (entry_at v Layout.ENTRY Layout.ENTRY-ROOM) 0 (Layout.entries_in v)
  unfolding sheet_of rule_at
  entries_all = rw s.entries_end at (ends_flat (λ r. r.entries) (rule_at v) (entry_at v Layout.ENTRY Layout.ENTRY-ROOM) (rule_entry_ends v) (Layout.rules_in v) (λ k. refl) (λ k h. (s.each_rule k h).entries.up))

  pub style_entries_all : style_entries (sheet_of v).styles ≡ spread (entry_at v Layout.STYLE-ENTRY Layout.STYLE-ENTRY-ROOM) 0 (Layout.style_entries_in v)
  unfolding sheet_of style_at
  style_entries_all = rw s.style_entries_end at (ends_flat (λ d. d.entries) (style_at v) (entry_at v Layout.STYLE-ENTRY Layout.STYLE-ENTRY-ROOM) (style_entry_ends v) (Layout.styles_in v) (λ k. refl) (λ k h. (s.each_style k h).entries.up))

  -- the counts are those of what it holds,
  pub rules_count : length (sheet_of v).rules ≡ Layout.rules_in v
  unfolding sheet_of
  rules_count = length_spread (rule_at v) 0 (Layout.rules_in v)

  pub styles_count : length (sheet_of v).styles ≡ Layout.styles_in v
  unfolding sheet_of
  styles_count = length_spread (style_at v) 0 (Layout.styles_in v)

  pub steps_count : length (steps_of (sheet_of v).rules) ≡ Layout.steps_in v
  steps_count = rw steps_all (length_spread (part_at v) 0 (Layout.steps_in v))

  pub ids_count : ids_held (steps_of (sheet_of v).rules) ≡ Layout.ids_in v
  ids_count = rw steps_all (first_ids (Layout.steps_in v) (omega arith) ∙ s.ids_sum)

  pub entries_count : length (rule_entries (sheet_of v).rules) ≡ Layout.entries_in v
  entries_count = rw entries_all (length_spread _ 0 (Layout.entries_in v))

  pub style_entries_count : length (style_entries (sheet_of v).styles) ≡ Layout.style_entries_in v
  style_entries_count = rw style_entries_all (length_spread _ 0 (Layout.style_entries_in v))

  -- within what each rule and each style may have
  pub steps_few : Layout.steps_in v ≤ 8 * Layout.rules_in v
  steps_few = rw s.steps_end at (ends_few (rule_step_ends v) 8 (Layout.rules_in v) (λ k h. (s.each_rule k h).steps))

  pub style_entries_few : Layout.style_entries_in v ≤ 32 * Layout.styles_in v
  style_entries_few = rw s.style_entries_end at (ends_few (style_entry_ends v) 32 (Layout.styles_in v) (λ k h. (s.each_style k h).entries))

  -- ---- each part of it is good

  good_part : (k : ℕ) → k < Layout.steps_in v → GoodStep (part_at v k)
  unfolding part_at
  good_part k h =
      let t = s.each_step k h in
      record {
        classes_few = rw (row_classes t (step_room k h)) t.classes;
        pseudos_few = rw (row_pseudos t (step_room k h)) t.pseudos;
        classes_ascend_lem = and_left _ _ t.sorted;
        pseudos_ascend_lem = and_right (ascends (row_at 8 v (Layout.step_place k)).classes) _ t.sorted;
      }

  good_rule : (r : ℕ) → r < Layout.rules_in v → GoodRule (rule_at v r)
  good_rule r h = record {
    fits = rule_fits v s.room (shaped_ended v s) (omega (arith, s.entries)) r h (s.each_rule r h);
    steps_good = unfold rule_at in λ p m.
        let (k, a, b, e) = spread_in (part_at v) (start_of (rule_step_ends v) r) (rule_step_ends v r - start_of (rule_step_ends v) r) p m in
        rw e (good_part k (omega (arith, step_end_within s r h, (s.each_rule r h).steps.up)));
    entries_good = unfold rule_at in good_between v Layout.ENTRY Layout.ENTRY-ROOM (Layout.entries_in v) s.pool (rule_entry_ends v) r (s.each_rule r h).entries.up (entry_end_within s r h);
  }

  good_style : (d : ℕ) → d < Layout.styles_in v → GoodStyle (style_at v d)
  good_style d h = record {
    fits = style_fits v s.room (shaped_ended v s) s.style_entries_lem d h (s.each_style d h);
    entries_good = unfold style_at in good_between v Layout.STYLE-ENTRY Layout.STYLE-ENTRY-ROOM (Layout.style_entries_in v) s.style_pool (style_entry_ends v) d (s.each_style d h).entries.up (style_entry_end_within s d h);
  }

  pub held_good : Good (sheet_of v).styles (sheet_of v).rules
  unfolding sheet_of
  held_good = record {
    styles_good = λ d m. let (k, a, b, e) = spread_in (style_at v) 0 (Layout.styles_in v) d m in rw e (good_style k (omega arith));
    rules_good = λ r m. let (k, a, b, e) = spread_in (rule_at v) 0 (Layout.rules_in v) r m in rw e (good_rule k (omega arith));
  }
