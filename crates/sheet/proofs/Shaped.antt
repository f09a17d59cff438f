-- What the test of a sheet's shape means, part by part, and what follows of a shaped sheet. Assumes nothing.
use mathlib.Core.Path.{◌≡◌, refl}
use mathlib.Core.Bool.{Bool, true, ◌&&◌}
use mathlib.Core.List.{List, [], ◌∷◌}
use mathlib.Core.Logic.{inl, inr}
use Prim.Native.Nat.{ℕ, zero, suc, ◌+◌, ◌-◌, ◌≤◌, ◌<◌}
use native.Mathlib.Omega.{arith}
use lib.ListN.{length, get_or, take, drop}
use lib.Seq.{take-nil, get_or-drop}
use lib.Dec.{leb}
use borrow.Author.Tests.{lt-ltb, le-ltb, le-leb, leb-true, eq-eqb, eqb-true}
use Rattle.theory.specs.Lists.{ascends, at_most, sum_below}
use Rattle.theory.proofs.Lists.{le_or_lt, and_left, and_right, and_both}
use Rattle.lent.specs.All.{all_below}
use Rattle.lent.specs.Pool.{ends_in, start_of, list_at}
use Rattle.lent.proofs.All.{all_at, all_intro}
use Rattle.lent.proofs.Pool.{Rising, starts_rise}
use Rattle.selector.specs.Rows.{row_at, words_from}
use Rattle.selector.specs.Checks.{row_fits, tags_ascend}
use Rattle.sheet.specs.Layout
use Rattle.sheet.specs.Sheets.{rule_step_ends, rule_entry_ends, style_entry_ends}
use Rattle.sheet.specs.Shape.{room_enough, rules_fit, steps_fit, ids_fit, next_fits, rule_counts_fit, styles_fit, style_entries_fit, entries_fit, style_counts_fit, counts_fit, end_to_end, not_longer, list_fits, origin_fits, source_fits, properties_ascend, first_untied, rule_lists_fit, rule_fine, style_fine, type_flag_fits, part_flag_fits, classes_fit, pseudos_fit, classes_ascend, pseudos_ascend, combinator_fits, step_fine, properties_fit, kinds_fit, pool_fits, ids_at, ends_at, ids_meet, ends_meet, rows_fine, pools_fit, sheet_shape}

-- ---- the parts

pub record ListShaped (ends : ℕ → ℕ) (size k : ℕ) : Type 0 where
  pub up : start_of ends k ≤ ends k
  pub few : ends k ≤ start_of ends k + size

-- a rule's first step has combinator word 0
abbrev pub Untied : List ℕ → ℕ → Type 0
Untied w r = start_of (rule_step_ends w) r < rule_step_ends w r → ends_in w Layout.STEP-COMBINATOR Layout.STEP-WORDS (start_of (rule_step_ends w) r) ≡ 0

pub record RuleShaped (w : List ℕ) (r : ℕ) : Type 0 where
  pub origin : ends_in w Layout.RULE-ORIGIN Layout.RULE-WORDS r ≤ 7
  pub source : ends_in w Layout.RULE-SOURCE Layout.RULE-WORDS r ≤ 65535
  pub steps : ListShaped (rule_step_ends w) 8 r
  pub entries : ListShaped (rule_entry_ends w) 32 r
  pub untied : Untied w r
  pub sorted : ascends (list_at (rule_entry_ends w) (drop Layout.ENTRY w) r) ≡ true

pub record StyleShaped (w : List ℕ) (d : ℕ) : Type 0 where
  pub origin : ends_in w Layout.STYLE-ORIGIN Layout.STYLE-WORDS d ≤ 7
  pub source : ends_in w Layout.STYLE-SOURCE Layout.STYLE-WORDS d ≤ 65535
  pub entries : ListShaped (style_entry_ends w) 32 d
  pub sorted : ascends (list_at (style_entry_ends w) (drop Layout.STYLE-ENTRY w) d) ≡ true

pub record StepShaped (w : List ℕ) (s : ℕ) : Type 0 where
  pub type_flag : get_or w (Layout.step_place s) 0 ≤ 1
  pub part_flag : get_or w (Layout.step_place s + 2) 0 ≤ 1
  pub classes : get_or w (Layout.step_place s + 4) 0 ≤ 8
  pub pseudos : get_or w (Layout.step_place s + 5) 0 ≤ 8
  pub sorted : tags_ascend (row_at 8 w (Layout.step_place s)) ≡ true
  pub combinator : ends_in w Layout.STEP-COMBINATOR Layout.STEP-WORDS s ≤ 1

-- the n entries of the pool that stands at `base`
pub record PoolShaped (w : List ℕ) (base room n : ℕ) : Type 0 where
  pub properties : (e : ℕ) → e < n → get_or w (base + e) 0 ≤ 65535
  pub kinds : (e : ℕ) → e < n → get_or w (base + room + e) 0 ≤ 3

pub record Shaped (w : List ℕ) : Type 0 where
  pub room : Layout.SHEET-WORDS ≤ length w
  pub rules : Layout.rules_in w ≤ 256
  pub steps : Layout.steps_in w ≤ 2048
  pub ids : Layout.ids_in w ≤ 8192
  pub next : Layout.next_in w ≤ 65536
  pub styles : Layout.styles_in w ≤ 64
  pub style_entries_lem : Layout.style_entries_in w ≤ 2048
  pub entries : Layout.entries_in w + Layout.style_entries_in w ≤ 4096
  pub each_rule : (r : ℕ) → r < Layout.rules_in w → RuleShaped w r
  pub each_step : (s : ℕ) → s < Layout.steps_in w → StepShaped w s
  pub each_style : (d : ℕ) → d < Layout.styles_in w → StyleShaped w d
  pub pool : PoolShaped w Layout.ENTRY Layout.ENTRY-ROOM (Layout.entries_in w)
  pub style_pool : PoolShaped w Layout.STYLE-ENTRY Layout.STYLE-ENTRY-ROOM (Layout.style_entries_in w)
  pub steps_end : start_of (rule_step_ends w) (Layout.rules_in w) ≡ Layout.steps_in w
  pub entries_end : start_of (rule_entry_ends w) (Layout.rules_in w) ≡ Layout.entries_in w
  pub style_entries_end : start_of (style_entry_ends w) (Layout.styles_in w) ≡ Layout.style_entries_in w
  pub ids_sum : sum_below (ids_at w) (Layout.steps_in w) ≡ Layout.ids_in w

-- ---- tests and what they say

two : (a b : Bool) → (a && b) ≡ true → (a ≡ true) × (b ≡ true)
two a b e = (and_left a b e, and_right a b e)

three : (a b c : Bool) → (a && (b && c)) ≡ true → (a ≡ true) × (b ≡ true) × (c ≡ true)
three a b c e = let (f, g) = two b c (and_right a (b && c) e) in (and_left a (b && c) e, f, g)

four : (a b c d : Bool) → (a && (b && (c && d))) ≡ true → (a ≡ true) × (b ≡ true) × (c ≡ true) × (d ≡ true)
four a b c d e = let (f, g, h) = three b c d (and_right a (b && (c && d)) e) in (and_left a (b && (c && d)) e, f, g, h)

module _ (ends : ℕ → ℕ) (size k : ℕ) where
  list_to : list_fits ends size k ≡ true → ListShaped ends size k
  unfolding list_fits end_to_end not_longer
  list_to e =
      let (u, f) = two (end_to_end ends k) (not_longer ends size k) e in
      let h = leb-true (start_of ends k) (ends k) u in
      record { up = h; few = omega (arith, leb-true (ends k - start_of ends k) size f) }

  list_from : ListShaped ends size k → list_fits ends size k ≡ true
  unfolding list_fits end_to_end not_longer
  list_from l = rw (le-leb (start_of ends k) (ends k) l.up, le-leb (ends k - start_of ends k) size (omega arith))

module _ (limit : ℕ) where
  most_to : (l : List ℕ) (n e : ℕ) → e < n → at_most limit (take n l) ≡ true → get_or l e 0 ≤ limit
  unfolding at_most
  most_to [] n e h t = omega arith
  most_to (a ∷ l) zero e h t = absurd (omega arith)
  most_to (a ∷ l) (suc n) zero h t = leb-true a limit (and_left (leb a limit) _ t)
  most_to (a ∷ l) (suc n) (suc e) h t = most_to l n e (omega arith) (and_right (leb a limit) _ t)

  most_from : (l : List ℕ) (n : ℕ) → ((e : ℕ) → e < n → get_or l e 0 ≤ limit) → at_most limit (take n l) ≡ true
  unfolding at_most
  most_from [] n h = rw take-nil
  most_from (a ∷ l) zero h = refl
  most_from (a ∷ l) (suc n) h = rw (le-leb a limit (h 0 (omega arith))) (most_from l n (λ e k. h (suc e) (omega arith)))

module _ (w : List ℕ) where
  words_to : (limit base n e : ℕ) → e < n → at_most limit (words_from w base n) ≡ true → get_or w (base + e) 0 ≤ limit
  words_to limit base n e h t = rw get_or-drop at (most_to limit (drop base w) n e h t)

  words_from_lem : (limit base n : ℕ) → ((e : ℕ) → e < n → get_or w (base + e) 0 ≤ limit) → at_most limit (words_from w base n) ≡ true
  words_from_lem limit base n h = most_from limit (drop base w) n (λ e k. rw get_or-drop (h e k))

  module _ (base room n : ℕ) where
    pool_to : pool_fits w base room n ≡ true → PoolShaped w base room n
    unfolding pool_fits properties_fit kinds_fit
    pool_to t =
        let (p, k) = two (properties_fit w base n) (kinds_fit w base room n) t in
        record { properties = λ e h. words_to 65535 base n e h p; kinds = λ e h. words_to 3 (base + room) n e h k }

    pool_from : PoolShaped w base room n → pool_fits w base room n ≡ true
    unfolding pool_fits properties_fit kinds_fit
    pool_from p = rw (words_from_lem 65535 base n p.properties, words_from_lem 3 (base + room) n p.kinds)

  -- ---- a rule, a style, a step

  module _ (r : ℕ) where
    untied_to : first_untied w r ≡ true → Untied w r
    unfolding first_untied
    untied_to e h = eqb-true _ 0 (rw (lt-ltb (start_of (rule_step_ends w) r) (rule_step_ends w r) h) at e)

    untied_from : Untied w r → first_untied w r ≡ true
    unfolding first_untied
    untied_from h = elim (le_or_lt (rule_step_ends w r) (start_of (rule_step_ends w) r)) [
      | inl l ↦ rw (le-ltb (start_of (rule_step_ends w) r) (rule_step_ends w r) l)
      | inr l ↦ rw (lt-ltb (start_of (rule_step_ends w) r) (rule_step_ends w r) l) (eq-eqb _ 0 (h l))
    ]

    rule_to : rule_fine w r ≡ true → RuleShaped w r
    unfolding rule_fine rule_lists_fit origin_fits source_fits properties_ascend
    rule_to e =
        let (o, s, l) = three (origin_fits w Layout.RULE-ORIGIN Layout.RULE-WORDS r) (source_fits w Layout.RULE-SOURCE Layout.RULE-WORDS r) (rule_lists_fit w r) e in
        let (p, q, u, a) = four (list_fits (rule_step_ends w) 8 r) (list_fits (rule_entry_ends w) 32 r) (first_untied w r) (properties_ascend w Layout.ENTRY (rule_entry_ends w) r) l in
        record {
          origin = leb-true _ 7 o;
          source = leb-true _ 65535 s;
          steps = list_to (rule_step_ends w) 8 r p;
          entries = list_to (rule_entry_ends w) 32 r q;
          untied = untied_to u;
          sorted = a;
        }

    rule_from : RuleShaped w r → rule_fine w r ≡ true
    unfolding rule_fine rule_lists_fit origin_fits source_fits properties_ascend
    rule_from s = rw (
      le-leb _ 7 s.origin,
      le-leb _ 65535 s.source,
      list_from (rule_step_ends w) 8 r s.steps,
      list_from (rule_entry_ends w) 32 r s.entries,
      untied_from s.untied,
      s.sorted,
    )

  module _ (d : ℕ) where
    style_to : style_fine w d ≡ true → StyleShaped w d
    unfolding style_fine origin_fits source_fits properties_ascend
    style_to e =
        let (o, s, l, a) = four (origin_fits w Layout.STYLE-ORIGIN Layout.STYLE-WORDS d) (source_fits w Layout.STYLE-SOURCE Layout.STYLE-WORDS d) (list_fits (style_entry_ends w) 32 d) (properties_ascend w Layout.STYLE-ENTRY (style_entry_ends w) d) e in
        record { origin = leb-true _ 7 o; source = leb-true _ 65535 s; entries = list_to (style_entry_ends w) 32 d l; sorted = a }

    style_from : StyleShaped w d → style_fine w d ≡ true
    unfolding style_fine origin_fits source_fits properties_ascend
    style_from s = rw (le-leb _ 7 s.origin, le-leb _ 65535 s.source, list_from (style_entry_ends w) 32 d s.entries, s.sorted)

  module _ (s : ℕ) where
    step_to : step_fine w s ≡ true → StepShaped w s
    unfolding step_fine type_flag_fits part_flag_fits classes_fit pseudos_fit classes_ascend pseudos_ascend combinator_fits
    step_to e =
        let (t, f, c, rest) = four (type_flag_fits w s) (part_flag_fits w s) (classes_fit w s) (pseudos_fit w s && (classes_ascend w s && (pseudos_ascend w s && combinator_fits w s))) e in
        let (p, d, q, k) = four (pseudos_fit w s) (classes_ascend w s) (pseudos_ascend w s) (combinator_fits w s) rest in
        record {
          type_flag = leb-true _ 1 t;
          part_flag = leb-true _ 1 f;
          classes = leb-true _ 8 c;
          pseudos = leb-true _ 8 p;
          sorted = and_both _ _ d q;
          combinator = leb-true _ 1 k;
        }

    step_from_lem : StepShaped w s → step_fine w s ≡ true
    unfolding step_fine type_flag_fits part_flag_fits classes_fit pseudos_fit classes_ascend pseudos_ascend combinator_fits
    step_from_lem t =
        let (d, q) = two (ascends (row_at 8 w (Layout.step_place s)).classes) (ascends (row_at 8 w (Layout.step_place s)).pseudos) t.sorted in
        rw (le-leb _ 1 t.type_flag, le-leb _ 1 t.part_flag, le-leb _ 8 t.classes, le-leb _ 8 t.pseudos, d, q, le-leb _ 1 t.combinator)

    -- the counts of its ids, as callees of `selector` ask
    pub row_from : StepShaped w s → row_fits 8 w (Layout.step_place s) ≡ true
    row_from t = rw (le-ltb 8 _ t.classes, le-ltb 8 _ t.pseudos)

-- ---- the whole

module _ (w : List ℕ) where
  counts_to : counts_fit w ≡ true → (Layout.SHEET-WORDS ≤ length w) × (rule_counts_fit w ≡ true) × (style_counts_fit w ≡ true)
  unfolding counts_fit room_enough
  counts_to e = let (r, c, s) = three (room_enough w) (rule_counts_fit w) (style_counts_fit w) e in (leb-true _ (length w) r, c, s)

  rule_counts_to : rule_counts_fit w ≡ true → (Layout.rules_in w ≤ 256) × (Layout.steps_in w ≤ 2048) × (Layout.ids_in w ≤ 8192) × (Layout.next_in w ≤ 65536)
  unfolding rule_counts_fit rules_fit steps_fit ids_fit next_fits
  rule_counts_to e =
      let (r, s, i, n) = four (rules_fit w) (steps_fit w) (ids_fit w) (next_fits w) e in
      (leb-true _ 256 r, leb-true _ 2048 s, leb-true _ 8192 i, leb-true _ 65536 n)

  -- as callees ask for it
  pub counts_steps : (n : ℕ) → counts_fit w ≡ true → n ≡ Layout.steps_in w → n ≤ 2048
  counts_steps n e f = let (_, c, _) = counts_to e in let (_, s, _, _) = rule_counts_to c in rw f s

  style_counts_to : style_counts_fit w ≡ true → (Layout.styles_in w ≤ 64) × (Layout.style_entries_in w ≤ 2048) × (Layout.entries_in w + Layout.style_entries_in w ≤ 4096)
  unfolding style_counts_fit styles_fit style_entries_fit entries_fit
  style_counts_to e =
      let (s, n, m) = three (styles_fit w) (style_entries_fit w) (entries_fit w) e in
      (leb-true _ 64 s, leb-true _ 2048 n, leb-true _ 4096 m)

  ends_to : ends_meet w ≡ true
      → (start_of (rule_step_ends w) (Layout.rules_in w) ≡ Layout.steps_in w)
      × (start_of (rule_entry_ends w) (Layout.rules_in w) ≡ Layout.entries_in w)
      × (start_of (style_entry_ends w) (Layout.styles_in w) ≡ Layout.style_entries_in w)
      × (sum_below (ids_at w) (Layout.steps_in w) ≡ Layout.ids_in w)
  unfolding ends_meet ends_at ids_meet
  ends_to e =
      let (a, b, c, d) = four
      (ends_at (rule_step_ends w) (Layout.rules_in w) (Layout.steps_in w))
      (ends_at (rule_entry_ends w) (Layout.rules_in w) (Layout.entries_in w))
      (ends_at (style_entry_ends w) (Layout.styles_in w) (Layout.style_entries_in w))
      (ids_meet w)
      e in
      (eqb-true _ (Layout.steps_in w) a, eqb-true _ (Layout.entries_in w) b, eqb-true _ (Layout.style_entries_in w) c, eqb-true _ (Layout.ids_in w) d)

  pub shaped : sheet_shape w ≡ true → Shaped w
  unfolding sheet_shape rows_fine pools_fit
  shaped e =
      let (c, r, p, m) = four (counts_fit w) (rows_fine w) (pools_fit w) (ends_meet w) e in
      let (room, cr, cs) = counts_to c in
      let (rules, steps, ids, next) = rule_counts_to cr in
      let (styles, style_entries_lem, entries) = style_counts_to cs in
      let (er, es, ed) = three (all_below (Layout.rules_in w) (rule_fine w)) (all_below (Layout.steps_in w) (step_fine w)) (all_below (Layout.styles_in w) (style_fine w)) r in
      let (pr, ps) = two
      (pool_fits w Layout.ENTRY Layout.ENTRY-ROOM (Layout.entries_in w))
      (pool_fits w Layout.STYLE-ENTRY Layout.STYLE-ENTRY-ROOM (Layout.style_entries_in w))
      p in
      let (ms, me, md, mi) = ends_to m in
      record {
        room = room;
        rules = rules;
        steps = steps;
        ids = ids;
        next = next;
        styles = styles;
        style_entries_lem = style_entries_lem;
        entries = entries;
        each_rule = λ k h. rule_to w k (all_at (rule_fine w) (Layout.rules_in w) k h er);
        each_step = λ k h. step_to w k (all_at (step_fine w) (Layout.steps_in w) k h es);
        each_style = λ k h. style_to w k (all_at (style_fine w) (Layout.styles_in w) k h ed);
        pool = pool_to w Layout.ENTRY Layout.ENTRY-ROOM (Layout.entries_in w) pr;
        style_pool = pool_to w Layout.STYLE-ENTRY Layout.STYLE-ENTRY-ROOM (Layout.style_entries_in w) ps;
        steps_end = ms;
        entries_end = me;
        style_entries_end = md;
        ids_sum = mi;
      }

  counts_from : Shaped w → counts_fit w ≡ true
  unfolding counts_fit room_enough rule_counts_fit rules_fit steps_fit ids_fit next_fits style_counts_fit styles_fit style_entries_fit entries_fit
  counts_from s = rw (
    le-leb Layout.SHEET-WORDS (length w) s.room,
    le-leb (Layout.rules_in w) 256 s.rules,
    le-leb (Layout.steps_in w) 2048 s.steps,
    le-leb (Layout.ids_in w) 8192 s.ids,
    le-leb (Layout.next_in w) 65536 s.next,
    le-leb (Layout.styles_in w) 64 s.styles,
    le-leb (Layout.style_entries_in w) 2048 s.style_entries_lem,
    le-leb (Layout.entries_in w + Layout.style_entries_in w) 4096 s.entries,
  )

  ends_from : Shaped w → ends_meet w ≡ true
  unfolding ends_meet ends_at ids_meet
  ends_from s = rw (
    eq-eqb (start_of (rule_step_ends w) (Layout.rules_in w)) (Layout.steps_in w) s.steps_end,
    eq-eqb (start_of (rule_entry_ends w) (Layout.rules_in w)) (Layout.entries_in w) s.entries_end,
    eq-eqb (start_of (style_entry_ends w) (Layout.styles_in w)) (Layout.style_entries_in w) s.style_entries_end,
    eq-eqb (sum_below (ids_at w) (Layout.steps_in w)) (Layout.ids_in w) s.ids_sum,
  )

  pub unshaped : Shaped w → sheet_shape w ≡ true
  unfolding sheet_shape rows_fine pools_fit
  unshaped s = rw (
    counts_from s,
    all_intro (rule_fine w) (Layout.rules_in w) (λ k h. rule_from w k (s.each_rule k h)),
    all_intro (step_fine w) (Layout.steps_in w) (λ k h. step_from_lem w k (s.each_step k h)),
    all_intro (style_fine w) (Layout.styles_in w) (λ k h. style_from w k (s.each_style k h)),
    pool_from w Layout.ENTRY Layout.ENTRY-ROOM (Layout.entries_in w) s.pool,
    pool_from w Layout.STYLE-ENTRY Layout.STYLE-ENTRY-ROOM (Layout.style_entries_in w) s.style_pool,
    ends_from s,
  )

-- ---- what follows

-- where none of n lists falls and the last ends at `count`, each start and each end is within it
module _ (ends : ℕ → ℕ) (n count : ℕ) (up : Rising n ends) (last : start_of ends n ≡ count) where
  pub start_within : (k : ℕ) → k ≤ n → start_of ends k ≤ count
  start_within k h = rw last at (starts_rise ends n k n up h (omega arith))

  pub end_within : (k : ℕ) → k < n → ends k ≤ count
  unfolding start_of
  end_within k h = start_within (suc k) h

module _ {w : List ℕ} (s : Shaped w) where
  -- none of its lists ends before its start
  pub steps_rising : Rising (Layout.rules_in w) (rule_step_ends w)
  steps_rising k h = (s.each_rule k h).steps.up

  pub entries_rising : Rising (Layout.rules_in w) (rule_entry_ends w)
  entries_rising k h = (s.each_rule k h).entries.up

  pub style_entries_rising : Rising (Layout.styles_in w) (style_entry_ends w)
  style_entries_rising k h = (s.each_style k h).entries.up

  -- each start and each end is within what is there
  pub step_start_within : (r : ℕ) → r ≤ Layout.rules_in w → start_of (rule_step_ends w) r ≤ Layout.steps_in w
  step_start_within r h = start_within (rule_step_ends w) (Layout.rules_in w) (Layout.steps_in w) steps_rising s.steps_end r h

  pub step_end_within : (r : ℕ) → r < Layout.rules_in w → rule_step_ends w r ≤ Layout.steps_in w
  step_end_within r h = end_within (rule_step_ends w) (Layout.rules_in w) (Layout.steps_in w) steps_rising s.steps_end r h

  pub entry_end_within : (r : ℕ) → r < Layout.rules_in w → rule_entry_ends w r ≤ Layout.entries_in w
  entry_end_within r h = end_within (rule_entry_ends w) (Layout.rules_in w) (Layout.entries_in w) entries_rising s.entries_end r h

  pub style_entry_end_within : (d : ℕ) → d < Layout.styles_in w → style_entry_ends w d ≤ Layout.style_entries_in w
  style_entry_end_within d h = end_within (style_entry_ends w) (Layout.styles_in w) (Layout.style_entries_in w) style_entries_rising s.style_entries_end d h
