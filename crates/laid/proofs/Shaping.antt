-- A sheet of good shape is one again after an addition of good things. Assumes nothing.
use mathlib.Core.Path.{◌≡◌, refl, sym, ap, ap₂, ◌∙◌}
use mathlib.Core.Bool.{true}
use mathlib.Core.Option.{Option, none, some}
use mathlib.Core.List.Memᴰ
use mathlib.Core.List.{List, [], ◌∷◌, map, flat_map, map-append}
use Prim.Native.Nat.{ℕ, zero, suc, ◌+◌, ◌-◌, ◌*◌, ◌≤◌, ◌<◌}
use native.Mathlib.Nat.{add-zero}
use native.Mathlib.Omega.{arith}
use lib.ListN.{length, get_or, drop, length-map}
use lib.Seq.{drop-drop}
use borrow.Author.Tests.{ne_eqb}
use Rattle.theory.specs.Lists.{◌∈◌, ascends, at_most, spread, sum_below, total}
use Rattle.theory.specs.Paths.{Comb, child, descendant, Part, Selector}
use Rattle.theory.proofs.Lists.{and_both, flat_map_in}
use Rattle.theory.proofs.Spreads.{length_spread, map_spread, spread_shift, part_spread, sum_same, at_most_at, at_most_append}
use Rattle.lent.specs.Pool.{ends_in, start_of, list_at}
use Rattle.selector.specs.Tags.{Tags}
use Rattle.selector.specs.Rows.{comb_of}
use Rattle.selector.specs.Weighing.{is_set, counts_of}
use Rattle.style.specs.Entries.{Entry}
use Rattle.sheet.specs.Layout
use Rattle.sheet.specs.Sheets.{Style, Rule, between, rule_step_ends, rule_entry_ends, style_entry_ends, part_at, entry_at, rule_at, style_at}
use Rattle.sheet.specs.Shape.{ids_at, sheet_shape}
use Rattle.sheet.specs.Laying.{code_of, step_words, rule_entries, style_entries, steps_of, ids_held, lay}
use Rattle.sheet.proofs.Shaped.{RuleShaped, StyleShaped, StepShaped, PoolShaped, Shaped, shaped, unshaped, end_within}
use Rattle.laid.proofs.Frame.{Sizes, get_or_map, length_lay, rules_after, steps_after, ids_after, entries_after, styles_after, style_entries_after, next_after_lem}
use Rattle.laid.proofs.Frame.{step_kept, entry_kept, entry_new, style_entry_kept, style_entry_new}
use Rattle.laid.proofs.Reading.{Ended, Few, get_or_in, before_or_added, comb_word, row_back, no_part, no_style, no_rule}
use Rattle.laid.proofs.Reading.{step_word_kept, step_word_new, row_kept, style_at_kept, style_at_new, rule_at_kept, rule_at_new, ended_lay}

-- ---- what is added must be good

-- the first step, if there is one, is written as a child
abbrev pub FirstChild : Selector Tags → Type 0
FirstChild [] = Unit {0}
FirstChild (p ∷ l) = p.comb ≡ child

-- what its row says of a style, and of a rule
pub record FitStyle (d : Style) : Type 0 where
  pub origin_fits_lem : d.origin ≤ 7
  pub source_fits_lem : d.source ≤ 65535
  pub entries_few : length d.entries ≤ 32
  pub entries_ascend : ascends (map (λ e. e.property) d.entries) ≡ true

pub record FitRule (r : Rule) : Type 0 where
  pub origin_fits_lem : r.origin ≤ 7
  pub source_fits_lem : r.source ≤ 65535
  pub steps_few : length r.selector ≤ 8
  pub entries_few : length r.entries ≤ 32
  pub untied : FirstChild r.selector
  pub entries_ascend : ascends (map (λ e. e.property) r.entries) ≡ true

-- and what their entries and steps say
pub record GoodEntries (l : List Entry) : Type 0 where
  pub properties_fit_lem : at_most 65535 (map (λ e. e.property) l) ≡ true
  pub kinds_fit_lem : at_most 3 (map (λ e. e.kind) l) ≡ true

pub record GoodStep (p : Part Tags) : Type 0 where
  pub classes_few : length p.step.classes ≤ 8
  pub pseudos_few : length p.step.pseudos ≤ 8
  pub classes_ascend_lem : ascends p.step.classes ≡ true
  pub pseudos_ascend_lem : ascends p.step.pseudos ≡ true

pub record GoodStyle (d : Style) : Type 0 where
  pub fits : FitStyle d
  pub entries_good : GoodEntries d.entries

pub record GoodRule (r : Rule) : Type 0 where
  pub fits : FitRule r
  pub steps_good : (p : Part Tags) → p ∈ r.selector → GoodStep p
  pub entries_good : GoodEntries r.entries

pub record Good (styles : List Style) (rules : List Rule) : Type 0 where
  pub styles_good : (d : Style) → d ∈ styles → GoodStyle d
  pub rules_good : (r : Rule) → r ∈ rules → GoodRule r

good_steps : {styles : List Style} {rules : List Rule} → Good styles rules → (p : Part Tags) → p ∈ steps_of rules → GoodStep p
good_steps {styles} {rules} g p m = let i = (flat_map_in (λ r. r.selector) rules p).0 m in (g.rules_good i.0 i.1).steps_good p i.2

pub good_few : {styles : List Style} {rules : List Rule} → Good styles rules → Few rules
good_few g p m = let s = good_steps g p m in (s.classes_few, s.pseudos_few)

-- ---- a row is shaped where what it holds fits

-- the property ids of a list are those of its entries
properties_are : (w : List ℕ) (base room : ℕ) (ends : ℕ → ℕ) (k : ℕ) → start_of ends k ≤ ends k → base + ends k ≤ length w
    → list_at ends (drop base w) k ≡ map (λ e. e.property) (between (entry_at w base room) ends k)
unfolding list_at entry_at
properties_are w base room ends k h g =
    let s = start_of ends k in
    let n = ends k - s in
    rw (drop-drop s base w, part_spread w 0 (base + s) n (omega arith), map_spread (λ e. e.property) (entry_at w base room) s n)
    (sym (spread_shift (λ i. get_or w i 0) base s n))

comb_child : (v : ℕ) → comb_of v ≡ child → v ≡ 0
comb_child zero e = refl
comb_child (suc n) e =
    let f : code_of (comb_of (suc n)) ≡ 1 = rw (ne_eqb (suc n) 0 (λ q. omega arith)) in
    absurd (omega (arith, f, ap code_of e))

first_child_to : (w : List ℕ) (s n : ℕ) → (0 < n → ends_in w Layout.STEP-COMBINATOR Layout.STEP-WORDS s ≡ 0) → FirstChild (spread (part_at w) s n)
unfolding part_at
first_child_to w s zero h = tt
first_child_to w s (suc n) h = rw (h (omega arith))

first_child_from : (w : List ℕ) (s n : ℕ) → FirstChild (spread (part_at w) s n) → 0 < n → ends_in w Layout.STEP-COMBINATOR Layout.STEP-WORDS s ≡ 0
unfolding part_at
first_child_from w s zero u h = absurd (omega arith)
first_child_from w s (suc n) u h = comb_child (ends_in w Layout.STEP-COMBINATOR Layout.STEP-WORDS s) u

module _ (w : List ℕ) (room : Layout.SHEET-WORDS ≤ length w) (t : Ended w) where
  module _ (few : Layout.style_entries_in w ≤ 2048) (d : ℕ) (h : d < Layout.styles_in w) where
    style_properties : list_at (style_entry_ends w) (drop Layout.STYLE-ENTRY w) d ≡ map (λ e. e.property) (between (entry_at w Layout.STYLE-ENTRY Layout.STYLE-ENTRY-ROOM) (style_entry_ends w) d)
    style_properties =
        properties_are w Layout.STYLE-ENTRY Layout.STYLE-ENTRY-ROOM (style_entry_ends w) d (t.style_entries_rise d h)
        (omega (arith, end_within (style_entry_ends w) (Layout.styles_in w) (Layout.style_entries_in w) t.style_entries_rise t.style_entries_end d h))

    style_length : length (between (entry_at w Layout.STYLE-ENTRY Layout.STYLE-ENTRY-ROOM) (style_entry_ends w) d) ≡ style_entry_ends w d - start_of (style_entry_ends w) d
    style_length = length_spread _ _ _

    pub style_fits : StyleShaped w d → FitStyle (style_at w d)
    unfolding style_at
    style_fits q = record {
      origin_fits_lem = q.origin;
      source_fits_lem = q.source;
      entries_few = omega (arith, style_length, q.entries.few);
      entries_ascend = ap ascends (sym style_properties) ∙ q.sorted;
    }

    style_shaped : FitStyle (style_at w d) → StyleShaped w d
    unfolding style_at
    style_shaped f = record {
      origin = f.origin_fits_lem;
      source = f.source_fits_lem;
      entries = record { up = t.style_entries_rise d h; few = omega (arith, style_length, f.entries_few) };
      sorted = ap ascends style_properties ∙ f.entries_ascend;
    }

  module _ (few : Layout.entries_in w ≤ 4096) (r : ℕ) (h : r < Layout.rules_in w) where
    rule_properties : list_at (rule_entry_ends w) (drop Layout.ENTRY w) r ≡ map (λ e. e.property) (between (entry_at w Layout.ENTRY Layout.ENTRY-ROOM) (rule_entry_ends w) r)
    rule_properties =
        properties_are w Layout.ENTRY Layout.ENTRY-ROOM (rule_entry_ends w) r (t.entries_rise r h)
        (omega (arith, end_within (rule_entry_ends w) (Layout.rules_in w) (Layout.entries_in w) t.entries_rise t.entries_end r h))

    selector_length : length (between (part_at w) (rule_step_ends w) r) ≡ rule_step_ends w r - start_of (rule_step_ends w) r
    selector_length = length_spread _ _ _

    rule_length : length (between (entry_at w Layout.ENTRY Layout.ENTRY-ROOM) (rule_entry_ends w) r) ≡ rule_entry_ends w r - start_of (rule_entry_ends w) r
    rule_length = length_spread _ _ _

    pub rule_fits : RuleShaped w r → FitRule (rule_at w r)
    unfolding rule_at
    rule_fits q = record {
      origin_fits_lem = q.origin;
      source_fits_lem = q.source;
      steps_few = omega (arith, selector_length, q.steps.few);
      entries_few = omega (arith, rule_length, q.entries.few);
      untied = first_child_to w (start_of (rule_step_ends w) r) (rule_step_ends w r - start_of (rule_step_ends w) r) (λ l. q.untied (omega arith));
      entries_ascend = ap ascends (sym rule_properties) ∙ q.sorted;
    }

    rule_shaped : FitRule (rule_at w r) → RuleShaped w r
    unfolding rule_at
    rule_shaped f = record {
      origin = f.origin_fits_lem;
      source = f.source_fits_lem;
      steps = record { up = t.steps_rise r h; few = omega (arith, selector_length, f.steps_few) };
      entries = record { up = t.entries_rise r h; few = omega (arith, rule_length, f.entries_few) };
      untied = λ l. first_child_from w (start_of (rule_step_ends w) r) (rule_step_ends w r - start_of (rule_step_ends w) r) f.untied (omega arith);
      sorted = ap ascends rule_properties ∙ f.entries_ascend;
    }

pub shaped_ended : (w : List ℕ) → Shaped w → Ended w
shaped_ended w s = record {
  steps_end = s.steps_end;
  entries_end = s.entries_end;
  style_entries_end = s.style_entries_end;
  steps_rise = λ r h. (s.each_rule r h).steps.up;
  entries_rise = λ r h. (s.each_rule r h).entries.up;
  style_entries_rise = λ d h. (s.each_style d h).entries.up;
  classes_few = λ k h. (s.each_step k h).classes;
  pseudos_few = λ k h. (s.each_step k h).pseudos;
}

-- ---- pools

no_entry : Entry
no_entry = record { property = 0; kind = 0; number = 0 }

pool_added : (w w' : List ℕ) (base room n : ℕ) (l : List Entry)
    → ((e : ℕ) → e < n → entry_at w' base room e ≡ entry_at w base room e)
    → ((j : ℕ) → j < length l → entry_at w' base room (n + j) ≡ get_or l j no_entry)
    → PoolShaped w base room n
    → GoodEntries l
    → PoolShaped w' base room (n + length l)
unfolding entry_at
pool_added w w' base room n l kept new p g = record {
  properties = before_or_added (λ e. get_or w' (base + e) 0 ≤ 65535) n (length l)
      (λ e h. rw (ap (λ x. x.property) (kept e h)) (p.properties e h))
      (λ j h. rw (ap (λ x. x.property) (new j h)) (most 65535 (λ x. x.property) j h g.properties_fit_lem));
  kinds = before_or_added (λ e. get_or w' (base + room + e) 0 ≤ 3) n (length l)
      (λ e h. rw (ap (λ x. x.kind) (kept e h)) (p.kinds e h))
      (λ j h. rw (ap (λ x. x.kind) (new j h)) (most 3 (λ x. x.kind) j h g.kinds_fit_lem));
}
  where
    most : (limit : ℕ) (f : Entry → ℕ) (j : ℕ) → j < length l → at_most limit (map f l) ≡ true → f (get_or l j no_entry) ≤ limit
    most limit f j h e = rw (get_or_map f l j no_entry h) at (at_most_at limit (map f l) j e (rw length-map h))

-- what holds of each list holds of all
at_most_flat : {A : Type 0} (limit : ℕ) (f : Entry → ℕ) (g : A → List Entry) (l : List A) → ((x : A) → x ∈ l → at_most limit (map f (g x)) ≡ true) → at_most limit (map f (flat_map g l)) ≡ true
unfolding flat_map at_most
at_most_flat limit f g [] h = refl
at_most_flat limit f g (x ∷ l) h =
    rw (map-append f (g x) (flat_map g l))
    (at_most_append limit (map f (g x)) (map f (flat_map g l)) (h x (Memᴰ.head refl)) (at_most_flat limit f g l (λ y m. h y (Memᴰ.tail m))))

flat_good : {A : Type 0} (g : A → List Entry) (l : List A) → ((x : A) → x ∈ l → GoodEntries (g x)) → GoodEntries (flat_map g l)
flat_good g l h = record {
  properties_fit_lem = at_most_flat 65535 (λ e. e.property) g l (λ x m. (h x m).properties_fit_lem);
  kinds_fit_lem = at_most_flat 3 (λ e. e.kind) g l (λ x m. (h x m).kinds_fit_lem);
}

-- ---- ids

ids_added : (f : ℕ → ℕ) (n : ℕ) (l : Selector Tags) → ((j : ℕ) → j < length l → f (n + j) ≡ length (get_or l j no_part).step.classes + length (get_or l j no_part).step.pseudos)
    → sum_below f (n + length l) ≡ sum_below f n + ids_held l
unfolding sum_below ids_held total counts_of
ids_added f n [] h = rw (add-zero n) (omega arith)
ids_added f n (p ∷ l) h =
    let a : n + suc (length l) ≡ suc n + length l = omega arith in
    let b : f n ≡ length p.step.classes + length p.step.pseudos = rw (add-zero n) at (h 0 (omega arith)) in
    let i = ids_added f (suc n) l (λ j k. let c : suc n + j ≡ n + suc j = omega arith in rw c (h (suc j) (omega arith))) in
    rw a (i ∙ rw b (omega arith))

-- ---- steps

flag_fits : (t : Option ℕ) → is_set t ≤ 1
flag_fits none = omega arith
flag_fits (some n) = omega arith

code_fits : (c : Comb) → code_of c ≤ 1
code_fits child = omega arith
code_fits descendant = omega arith

-- a row that holds the words of a good step
step_good : (w : List ℕ) (s : ℕ) (p : Part Tags) → GoodStep p → Layout.step_place s + 23 ≤ length w
    → ((c : ℕ) → c < 23 → get_or w (Layout.step_place s + c) 0 ≡ get_or (step_words p) c 0)
    → StepShaped w s
unfolding step_words ends_in
step_good w s p g room is =
    let at = Layout.step_place s in
    let c : 1310 + 23 * s ≡ at + 22 = omega arith in
    record {
      type_flag = rw (rw (add-zero at) at (is 0 (omega arith))) (flag_fits p.step.type);
      part_flag = rw (is 2 (omega arith)) (flag_fits p.step.part);
      classes = rw (is 4 (omega arith)) g.classes_few;
      pseudos = rw (is 5 (omega arith)) g.pseudos_few;
      sorted = rw (row_back w at p room (g.classes_few, g.pseudos_few) is) (and_both _ _ g.classes_ascend_lem g.pseudos_ascend_lem);
      combinator = rw (c, is 22 (omega arith) ∙ comb_word p) (code_fits p.comb);
    }

step_same : {w : List ℕ} {styles : List Style} {rules : List Rule} (next : ℕ) (z : Sizes w styles rules) (t : Ended w) (s : ℕ) → s < Layout.steps_in w
    → StepShaped w s
    → StepShaped (lay styles rules next w) s
unfolding ends_in
step_same next z t s h q = record {
  type_flag = rw (step_kept next z (Layout.step_place s) (omega arith) (omega arith)) q.type_flag;
  part_flag = rw (step_word_kept next z s 2 h (omega arith)) q.part_flag;
  classes = rw (step_word_kept next z s 4 h (omega arith)) q.classes;
  pseudos = rw (step_word_kept next z s 5 h (omega arith)) q.pseudos;
  sorted = rw (row_kept next z t s h) q.sorted;
  combinator = rw (step_kept next z (1310 + 23 * s) (omega arith) (omega arith)) q.combinator;
}

-- ---- the whole

module _ {w : List ℕ} {styles : List Style} {rules : List Rule} (next : ℕ) (s : Shaped w) (z : Sizes w styles rules) (g : Good styles rules) where
  ids_lay : sum_below (ids_at (lay styles rules next w)) (Layout.steps_in (lay styles rules next w)) ≡ Layout.ids_in (lay styles rules next w)
  unfolding step_words
  ids_lay =
      let sel = steps_of rules in
      let n = Layout.steps_in w in
      rw (steps_after next z, ids_after next z)
      (ids_added (ids_at (lay styles rules next w)) n sel
      (λ j h. ap₂ ◌+◌ (step_word_new next z no_part j 4 h (omega arith)) (step_word_new next z no_part j 5 h (omega arith)))
      ∙ ap (λ x. x + ids_held sel)
      (sum_same (ids_at (lay styles rules next w)) (ids_at w) n (λ k h. ap₂ ◌+◌ (step_word_kept next z k 4 h (omega arith)) (step_word_kept next z k 5 h (omega arith))) ∙ s.ids_sum))

  ended : Ended (lay styles rules next w)
  ended = ended_lay next z (shaped_ended w s) (good_few g)

  room_lay : Layout.SHEET-WORDS ≤ length (lay styles rules next w)
  room_lay = omega (arith, z.room, length_lay styles rules next w)

  rules_lay : (r : ℕ) → r < Layout.rules_in (lay styles rules next w) → RuleShaped (lay styles rules next w) r
  rules_lay r h =
      let w' = lay styles rules next w in
      let t = shaped_ended w s in
      rule_shaped w' room_lay ended (omega (arith, z.entries_fit_lem, entries_after next z)) r h
      (before_or_added (λ r. FitRule (rule_at w' r)) (Layout.rules_in w) (length rules)
      (λ k l. rw (rule_at_kept next z t (good_few g) k l) (rule_fits w z.room t (omega (arith, z.entries_fit_lem)) k l (s.each_rule k l)))
      (λ k l. rw (rule_at_new next z t (good_few g) no_rule k l) (g.rules_good (get_or rules k no_rule) (get_or_in rules k no_rule l)).fits)
      r (rw (rules_after next z) at h))

  styles_lay : (d : ℕ) → d < Layout.styles_in (lay styles rules next w) → StyleShaped (lay styles rules next w) d
  styles_lay d h =
      let w' = lay styles rules next w in
      let t = shaped_ended w s in
      style_shaped w' room_lay ended (omega (arith, z.style_entries_fit_lem, style_entries_after next z)) d h
      (before_or_added (λ d. FitStyle (style_at w' d)) (Layout.styles_in w) (length styles)
      (λ k l. rw (style_at_kept next z t k l) (style_fits w z.room t (omega (arith, z.style_entries_fit_lem)) k l (s.each_style k l)))
      (λ k l. rw (style_at_new next z t no_style k l) (g.styles_good (get_or styles k no_style) (get_or_in styles k no_style l)).fits)
      d (rw (styles_after next z) at h))

  steps_lay : (k : ℕ) → k < Layout.steps_in (lay styles rules next w) → StepShaped (lay styles rules next w) k
  steps_lay k h =
      let sel = steps_of rules in
      before_or_added (StepShaped (lay styles rules next w)) (Layout.steps_in w) (length sel)
      (λ k l. step_same next z (shaped_ended w s) k l (s.each_step k l))
      (λ j l. step_good (lay styles rules next w) (Layout.steps_in w + j) (get_or sel j no_part) (good_steps g (get_or sel j no_part) (get_or_in sel j no_part l))
      (omega (arith, z.steps_fit_lem, room_lay)) (λ c q. step_word_new next z no_part j c l q))
      k (rw (steps_after next z) at h)

  pool_lay : PoolShaped (lay styles rules next w) Layout.ENTRY Layout.ENTRY-ROOM (Layout.entries_in (lay styles rules next w))
  pool_lay =
      rw (entries_after next z)
      (pool_added w (lay styles rules next w) Layout.ENTRY Layout.ENTRY-ROOM (Layout.entries_in w) (rule_entries rules) (entry_kept next z) (entry_new next z no_entry) s.pool
      (flat_good (λ r. r.entries) rules (λ r m. (g.rules_good r m).entries_good)))

  style_pool_lay : PoolShaped (lay styles rules next w) Layout.STYLE-ENTRY Layout.STYLE-ENTRY-ROOM (Layout.style_entries_in (lay styles rules next w))
  style_pool_lay =
      rw (style_entries_after next z)
      (pool_added w (lay styles rules next w) Layout.STYLE-ENTRY Layout.STYLE-ENTRY-ROOM (Layout.style_entries_in w) (style_entries styles) (style_entry_kept next z) (style_entry_new next z no_entry) s.style_pool
      (flat_good (λ d. d.entries) styles (λ d m. (g.styles_good d m).entries_good)))

  pub shaped_lay : Layout.entries_in w + length (rule_entries rules) + (Layout.style_entries_in w + length (style_entries styles)) ≤ 4096
      → Layout.ids_in w + ids_held (steps_of rules) ≤ 8192
      → next ≤ 65536
      → Shaped (lay styles rules next w)
  shaped_lay entries_fit_lem ids_fit_lem next_fits_lem = record {
    room = room_lay;
    rules = omega (arith, z.rules_fit_lem, rules_after next z);
    steps = omega (arith, z.steps_fit_lem, steps_after next z);
    ids = omega (arith, ids_after next z);
    next = omega (arith, next_after_lem next z);
    styles = omega (arith, z.styles_fit_lem, styles_after next z);
    style_entries_lem = omega (arith, z.style_entries_fit_lem, style_entries_after next z);
    entries = omega (arith, entries_after next z, style_entries_after next z);
    each_rule = rules_lay;
    each_step = steps_lay;
    each_style = styles_lay;
    pool = pool_lay;
    style_pool = style_pool_lay;
    steps_end = ended.steps_end;
    entries_end = ended.entries_end;
    style_entries_end = ended.style_entries_end;
    ids_sum = ids_lay;
  }

pub shape_lay : {w : List ℕ} {styles : List Style} {rules : List Rule} (next : ℕ)
    → sheet_shape w ≡ true
    → Sizes w styles rules
    → Layout.entries_in w + length (rule_entries rules) + (Layout.style_entries_in w + length (style_entries styles)) ≤ 4096
    → Layout.ids_in w + ids_held (steps_of rules) ≤ 8192
    → Good styles rules
    → next ≤ 65536
    → sheet_shape (lay styles rules next w) ≡ true
shape_lay {w} {styles} {rules} next s z entries ids g top = unshaped (lay styles rules next w) (shaped_lay next (shaped w s) z g entries ids top)
