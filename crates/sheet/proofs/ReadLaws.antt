-- What the shape of a sheet gives, and the elements of its lists. Assumes nothing.
use mathlib.Core.Path.{◌≡◌, refl}
use mathlib.Core.Bool.{true}
use mathlib.Core.Option.{Option, none, some}
use mathlib.Core.List.{List}
use Prim.Native.Nat.{ℕ, zero, suc, ◌+◌, ◌-◌, ◌≤◌, ◌<◌}
use native.Mathlib.Nat.{le_of_suc-le-suc}
use native.Mathlib.Omega.{arith}
use lib.ListN.{length, get_or, get_elem?}
use Rattle.theory.specs.Lists.{ascends, sort, spread}
use Rattle.theory.proofs.Lists.{and_left, and_right, ascending_ext, sort_ascending, ascends_is, sort_in}
use Rattle.theory.proofs.Spreads.{length_spread, get_elem?-spread}
use Rattle.lent.specs.Pool.{start_of}
use Rattle.selector.specs.Tags.{Tags, as_sets}
use Rattle.selector.specs.Rows.{row_at}
use Rattle.selector.specs.Checks.{tags_ascend}
use Rattle.sheet.specs.Layout
use Rattle.sheet.specs.Layout.{rules_in, steps_in, entries_in, styles_in, style_entries_in, step_place}
use Rattle.sheet.specs.Sheets.{part_at, between, rule_step_ends, rule_entry_ends, style_entry_ends}
use Rattle.sheet.specs.Shape.{sheet_shape}
use Rattle.sheet.proofs.Shaped.{ListShaped, shaped, step_end_within, entry_end_within, style_entry_end_within}

-- ---- what the shape gives

list_few : {ends : ℕ → ℕ} {size k : ℕ} → ListShaped ends size k → (start_of ends k ≤ ends k) × (ends k - start_of ends k ≤ size)
list_few l = let f = l.few in (l.up, omega arith)

pub tags_same : {t t' p p' : Option ℕ} {c c' q q' : List ℕ} → t ≡ t' → p ≡ p' → c ≡ c' → q ≡ q'
    → ◌≡◌ {A = Tags} (record { type = t; part = p; classes = c; pseudos = q }) (record { type = t'; part = p'; classes = c'; pseudos = q' })
tags_same e f g h = rw (e, f, g, h)

-- ids that ascend are a set already
pub sort_same : (l : List ℕ) → ascends l ≡ true → sort l ≡ l
sort_same l e = ascending_ext (sort l) l (sort_ascending l) ((ascends_is l).0 e) (sort_in l)

module _ (w : List ℕ) (shape : sheet_shape w ≡ true) where
  pub room : Layout.SHEET-WORDS ≤ length w
  room = (shaped w shape).room

  pub steps_few : steps_in w ≤ 2048
  steps_few = (shaped w shape).steps

  pub entries_few : (entries_in w ≤ 4096) × (style_entries_in w ≤ 2048)
  entries_few = let e = (shaped w shape).entries in (omega arith, (shaped w shape).style_entries_lem)

  pub rule_steps : (r : ℕ) → r < rules_in w → (start_of (rule_step_ends w) r ≤ rule_step_ends w r) × (rule_step_ends w r - start_of (rule_step_ends w) r ≤ 8)
  rule_steps r h = list_few ((shaped w shape).each_rule r h).steps

  pub style_entries_lem : (d : ℕ) → d < styles_in w → (start_of (style_entry_ends w) d ≤ style_entry_ends w d) × (style_entry_ends w d - start_of (style_entry_ends w) d ≤ 32)
  style_entries_lem d h = list_few ((shaped w shape).each_style d h).entries

  pub rule_steps_end : (r : ℕ) → r < rules_in w → rule_step_ends w r ≤ steps_in w
  rule_steps_end r h = step_end_within (shaped w shape) r h

  pub rule_entries_end : (r : ℕ) → r < rules_in w → rule_entry_ends w r ≤ entries_in w
  rule_entries_end r h = entry_end_within (shaped w shape) r h

  pub style_entries_end : (d : ℕ) → d < styles_in w → style_entry_ends w d ≤ style_entries_in w
  style_entries_end d h = style_entry_end_within (shaped w shape) d h

  pub rule_property_few : (e : ℕ) → e < entries_in w → get_or w (Layout.ENTRY + e) 0 ≤ 65535
  rule_property_few e l = (shaped w shape).pool.properties e l

  pub style_property_few : (e : ℕ) → e < style_entries_in w → get_or w (Layout.STYLE-ENTRY + e) 0 ≤ 65535
  style_property_few e l = (shaped w shape).style_pool.properties e l

  pub step_flags : (s : ℕ) → s < steps_in w → (get_or w (step_place s) 0 ≤ 1) × (get_or w (step_place s + 2) 0 ≤ 1)
  step_flags s h = let t = (shaped w shape).each_step s h in (t.type_flag, t.part_flag)

  pub step_ids : (s : ℕ) → s < steps_in w → (get_or w (step_place s + 4) 0 ≤ 8) × (get_or w (step_place s + 5) 0 ≤ 8)
  step_ids s h = let t = (shaped w shape).each_step s h in (t.classes, t.pseudos)

  pub step_ascends : (s : ℕ) → s < steps_in w → tags_ascend (row_at 8 w (step_place s)) ≡ true
  step_ascends s h = ((shaped w shape).each_step s h).sorted

  -- "they are sorted and made unique": the ids held are sets, so that a step's counts are those of its sets
  pub step_sets : (s : ℕ) → s < steps_in w → as_sets (part_at w s).step ≡ (part_at w s).step
  unfolding part_at
  step_sets s h =
      let t = row_at 8 w (step_place s) in
      let e = step_ascends s h in
      tags_same refl refl (sort_same t.classes (and_left _ _ e)) (sort_same t.pseudos (and_right (ascends t.classes) _ e))

-- ---- elements of a list end to end

module _ {A : Type 0} where
  -- nothing stands past the end
  pub get_elem?-past : (f : ℕ → A) (k n i : ℕ) → n ≤ i → get_elem? (spread f k n) i ≡ none
  get_elem?-past f k zero i h = refl
  get_elem?-past f k (suc n) zero h = absurd (omega arith)
  get_elem?-past f k (suc n) (suc i) h = get_elem?-past f (suc k) n i (le_of_suc-le-suc h)

  pub length_between : (f : ℕ → A) (ends : ℕ → ℕ) (k : ℕ) → length (between f ends k) ≡ ends k - start_of ends k
  length_between f ends k = length_spread f (start_of ends k) (ends k - start_of ends k)

  module _ (f : ℕ → A) (ends : ℕ → ℕ) (k n : ℕ) (e : n ≡ ends k - start_of ends k) (i : ℕ) where
    pub between_at : i < n → get_elem? (between f ends k) i ≡ some (f (start_of ends k + i))
    between_at h = get_elem?-spread f (start_of ends k) (ends k - start_of ends k) i (omega arith)

    pub between_past : n ≤ i → get_elem? (between f ends k) i ≡ none
    between_past h = get_elem?-past f (start_of ends k) (ends k - start_of ends k) i (omega arith)
