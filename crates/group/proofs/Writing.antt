-- Laws of the writing, by each way through the code: what a turn of a loop asks and leaves, and the whole. Assumes nothing.
use mathlib.Core.Path.{◌≡◌, refl, sym, ap, ◌∙◌}
use mathlib.Core.Bool.{true}
use mathlib.Core.List.{List, [], ◌∷◌, ◌++◌, flat_map, append-nil}
use Prim.Native.Nat.{ℕ, zero, suc, ◌+◌, ◌-◌, ◌*◌, ◌≤◌, ◌<◌}
use native.Mathlib.Nat.{add-zero}
use native.Mathlib.Omega.{arith}
use lib.ListN.{length, get_or, drop}
use lib.Seq.{sets, length-sets}
use mir.Syntax.{w32}
use mir.Val.{Fits}
use Rattle.theory.specs.Lists.{sum_below, total}
use Rattle.theory.proofs.Lists.{flat_map_append}
use Rattle.theory.proofs.Spreads.{length_spread, flat_map_one, sum_next, sum_same, sum_bound}
use Rattle.lent.specs.All.{all_below}
use Rattle.lent.proofs.All.{all_at}
use Rattle.lent.proofs.Placing.{sets_append}
use Rattle.selector.specs.Rows.{selector_of}
use Rattle.selector.specs.Checks.{row_fits}
use Rattle.style.specs.Entries.{entries_of}
use Rattle.sheet.specs.Layout
use Rattle.sheet.specs.Sheets.{rule_step_ends}
use Rattle.sheet.specs.Laying.{step_words, steps_words, rule_words, style_words, ids_held, lay_entries, lay_rules, lay_styles, count_words, lay}
use Rattle.sheet.proofs.Shaped.{shaped}
use Rattle.given.specs.declared.Counts.{Counts}
use Rattle.given.specs.Given.{style_given, Group, given, step_count, combinator_count, entry_count, steps_from, combinators_from, selector_given, rules_given}
use Rattle.given.specs.Pushing.{all_entries_in, style_push_verdict, pushed_style, group_verdict, pushed_group}
use Rattle.given.specs.Leaves.{CountsOf, Within, counts_list, part_of, code_before, Ids, SelectorsFit, EntriesFit, step_total, entry_total, id_total}
use Rattle.given.proofs.Accepted.{style_accepted, GroupAccepted, group_accepted, selectors_fit}
use Rattle.given.proofs.Counting.{ids_untied, counts_within}
use Rattle.group.proofs.Rules.{length_steps, length_selector, selector_next, length_rules, step_total_lem, entry_total_lem, steps_next, steps_length, rows_next, rows_length, steps_same, rows_same, entries_all, id_total_lem, id_total_few, sum_within, ends_few}

-- ---- a style

pub style_parts : (w x y properties kinds numbers : List ℕ) (origin next d e n d' e' : ℕ) → d' ≡ d → e' ≡ e
    → x ≡ lay_entries Layout.STYLE-ENTRY Layout.STYLE-ENTRY-ROOM e' (entries_of properties kinds numbers n) w
    → y ≡ sets x (Layout.STYLE-ORIGIN + Layout.STYLE-WORDS * d') (origin ∷ next ∷ (e + n) ∷ [])
    → y ≡ lay_styles d e (style_given origin next properties kinds numbers n ∷ []) w
unfolding lay_styles style_words
style_parts w x y properties kinds numbers origin next d e n d' e' a b f g =
    let l : length (entries_of properties kinds numbers n) ≡ n = unfold entries_of in (length_spread _ 0 n) in
    g ∙ rw (f, a, b, flat_map_one (λ s. s.entries) (style_given origin next properties kinds numbers n), l)

module _ (w : List ℕ) (origin : ℕ) (properties kinds numbers : List ℕ) (n : ℕ) (v : style_push_verdict w origin properties kinds numbers n ≡ 0) where
  pub style_count : n ≤ 32
  style_count = (style_accepted w properties kinds numbers n origin v).counted.few

  pub style_count_fits : Fits w32 n
  style_count_fits = record { fits = omega (arith, style_count) }

  pub style_in_properties : n ≤ length properties
  style_in_properties = (style_accepted w properties kinds numbers n origin v).counted.in_properties

  pub style_in_kinds : n ≤ length kinds
  style_in_kinds = (style_accepted w properties kinds numbers n origin v).counted.in_kinds

  pub style_in_numbers : n ≤ length numbers
  style_in_numbers = (style_accepted w properties kinds numbers n origin v).counted.in_numbers

module _ (w : List ℕ) (origin : ℕ) (properties kinds numbers : List ℕ) (n : ℕ) (v : style_push_verdict w origin properties kinds numbers n ≡ 0) (c : Counts) (h : CountsOf w c) where
  pub style_within : Within c
  style_within = counts_within h (shaped w (style_accepted w properties kinds numbers n origin v).shape)

  pub style_fits : Fits w32 (c.styles + 1)
  style_fits = let a = style_within in record { fits = omega (arith, a.styles) }

  pub style_entries_fit_lem : Fits w32 (c.style_entries + n)
  style_entries_fit_lem = let a = style_within in record { fits = omega (arith, a.style_entries_lem, (style_accepted w properties kinds numbers n origin v).counted.few) }

  pub style_next_fits : Fits w32 (c.next + 1)
  style_next_fits = let a = style_within in record { fits = omega (arith, a.next) }

  pub style_put : (x y : List ℕ)
      → x ≡ lay_styles c.styles c.style_entries (style_given origin c.next properties kinds numbers n ∷ []) w
      → y ≡ sets x 0 (c.rules ∷ c.steps ∷ c.ids ∷ c.entries ∷ (c.styles + 1) ∷ (c.style_entries + n) ∷ (c.next + 1) ∷ [])
      → y ≡ pushed_style w origin properties kinds numbers n
  unfolding pushed_style lay lay_rules rule_words count_words ids_held total flat_map
  style_put x y f g =
      let l : length (entries_of properties kinds numbers n) ≡ n = unfold entries_of in (length_spread _ 0 n) in
      let m : lay_entries Layout.ENTRY Layout.ENTRY-ROOM (Layout.entries_in w) [] w ≡ w = unfold lay_entries in refl in
      g ∙ rw (f, h.rules, h.steps, h.ids, h.entries, h.styles, h.style_entries_lem, h.next, m, append-nil (entries_of properties kinds numbers n), l) (simp add-zero)

-- ---- a selector's steps

pub code_later : (combinators : List ℕ) (j v : ℕ) → (j ≡ 0 → ⊥) → v ≡ get_or combinators (j - 1) 0 → v ≡ code_before combinators j
code_later combinators zero v h e = absurd (h refl)
code_later combinators (suc j) v h e = let p : suc j - 1 ≡ j = omega arith in rw p at e

-- the first j steps are written
pub record Stepping (w : List ℕ) (s : ℕ) (steps combinators : List ℕ) (n j : ℕ) (x : List ℕ) : Type 0 where
  pub within : j ≤ n
  pub size : length x ≡ length w
  pub laid : x ≡ sets w (Layout.step_place s) (flat_map step_words (selector_of steps combinators j))

pub step_start : {w : List ℕ} {s : ℕ} {steps combinators : List ℕ} {n : ℕ} → Stepping w s steps combinators n 0 w
step_start = unfold selector_of flat_map in (record { within = omega arith; size = refl; laid = refl })

module _ {w : List ℕ} {s : ℕ} {steps combinators : List ℕ} {n j : ℕ} {x : List ℕ} (k : Stepping w s steps combinators n j x) where
  module _ (p : (s ≤ 2048) × (n ≤ 8) × (all_below n (λ (i : ℕ). row_fits 8 steps (22 * i)) ≡ true) × ((i : ℕ) → i < n → code_before combinators i ≤ 1)) (h : j < n) where
    pub step_code : (code : ℕ) → code ≡ code_before combinators j → code ≤ 1
    step_code code e = omega (arith, p.3 j h)

    pub step_row_lem : row_fits 8 steps (22 * j) ≡ true
    step_row_lem = all_at (λ i. row_fits 8 steps (22 * i)) n j h p.2

  pub step_more : (code : ℕ) (y : List ℕ) → j < n → code ≡ code_before combinators j
      → y ≡ sets x (Layout.step_place (s + j)) (step_words (part_of steps (22 * j) code))
      → Stepping w s steps combinators n (j + 1) y
  step_more code y h e f =
      let l = flat_map step_words (selector_of steps combinators j) in
      let p = part_of steps (22 * j) (code_before combinators j) in
      let a : Layout.step_place (s + j) ≡ Layout.step_place s + length l = omega (arith, length_steps (selector_of steps combinators j), length_selector steps combinators j) in
      let g : l ++ step_words p ≡ flat_map step_words (selector_of steps combinators (j + 1)) = sym (ap (flat_map step_words) (selector_next steps combinators j) ∙ flat_map_append step_words (selector_of steps combinators j) (p ∷ []) ∙ ap (λ q. l ++ q) (flat_map_one step_words p)) in
      record {
        within = omega arith;
        size = ap length f ∙ length-sets x (Layout.step_place (s + j)) (step_words (part_of steps (22 * j) code)) ∙ k.size;
        laid = f ∙ rw (e, k.laid, a) (sets_append w (Layout.step_place s) l (step_words p)) ∙ ap (sets w (Layout.step_place s)) g;
      }

  pub step_end : n ≤ j → x ≡ sets w (Layout.step_place s) (flat_map step_words (selector_of steps combinators n))
  step_end h = let e : j ≡ n = omega (arith, k.within) in rw e at k.laid

-- ---- the steps of all rules

-- those of the first k rules are written; p steps and c combinators are behind
pub record Ruling (w : List ℕ) (s : ℕ) (rules : List ℕ) (n : ℕ) (steps combinators : List ℕ) (p c k : ℕ) (x : List ℕ) : Type 0 where
  pub within : k ≤ n
  pub size : length x ≡ length w
  pub steps_behind : p ≡ step_total (given rules steps combinators [] [] []) k
  pub ties_behind : c ≡ sum_below (combinator_count (given rules steps combinators [] [] [])) k
  pub steps_few : p ≤ 8 * k
  pub ties_few : c ≤ 8 * k
  pub laid : x ≡ sets w (Layout.step_place s) (steps_words (rules_given 0 0 (given rules steps combinators [] [] []) k))

pub rule_start : {w : List ℕ} {s : ℕ} {rules : List ℕ} {n : ℕ} {steps combinators : List ℕ} → Ruling w s rules n steps combinators 0 0 0 w
rule_start = unfold rules_given flat_map sum_below in (record { within = omega arith; size = refl; steps_behind = refl; ties_behind = refl; steps_few = omega arith; ties_few = omega arith; laid = refl })

module _ {w : List ℕ} {s : ℕ} {rules : List ℕ} {n : ℕ} {steps combinators : List ℕ} {p c k : ℕ} {x : List ℕ} (r : Ruling w s rules n steps combinators p c k x)
    (f : SelectorsFit (given rules steps combinators [] [] []) n) (h : k < n) where
  abbrev g : Group
  g = given rules steps combinators [] [] []

  pub count_few : (v count : ℕ) → v ≡ get_or rules (3 * k) 0 → count ≡ v → count ≤ 8
  count_few v count e q = omega (arith, (f k h).few)

  pub ties_few : (v count : ℕ) → v ≡ get_or rules (3 * k + 1) 0 → count ≡ v → count ≤ 8
  ties_few v count e q = omega (arith, (f k h).ties)

  module _ (v count : ℕ) (e : v ≡ get_or rules (3 * k) 0) (q : count ≡ v) (l m : List ℕ) (a : l ≡ drop (22 * p) steps) (b : m ≡ drop c combinators) where
    pub selector_rows : all_below count (λ (i : ℕ). row_fits 8 l (22 * i)) ≡ true
    selector_rows = rw (q, e, a, r.steps_behind) (f k h).rows

    pub selector_codes : (i : ℕ) → i < count → code_before m i ≤ 1
    selector_codes = rw (q, e, b, r.ties_behind) (f k h).codes

    pub rule_more : (u t : ℕ) (y : List ℕ) → u ≡ get_or rules (3 * k + 1) 0 → t ≡ u
        → y ≡ sets x (Layout.step_place (s + p)) (flat_map step_words (selector_of l m count))
        → Ruling w s rules n steps combinators (p + count) (c + t) (k + 1) y
    rule_more u t y i j o =
        let old = steps_words (rules_given 0 0 g k) in
        let new = flat_map step_words (selector_of (steps_from g k) (combinators_from g k) (step_count g k)) in
        let at : Layout.step_place (s + p) ≡ Layout.step_place s + length old = omega (arith, steps_length 0 0 g k, r.steps_behind) in
        record {
          within = omega arith;
          size = ap length o ∙ length-sets x (Layout.step_place (s + p)) (flat_map step_words (selector_of l m count)) ∙ r.size;
          steps_behind = omega (arith, sum_next (step_count g) k, r.steps_behind);
          ties_behind = omega (arith, sum_next (combinator_count g) k, r.ties_behind);
          steps_few = omega (arith, count_few v count e q, r.steps_few);
          ties_few = omega (arith, ties_few u t i j, r.ties_few);
          laid = o ∙ rw (at, r.laid, a, b, q, e, r.steps_behind, r.ties_behind) (sets_append w (Layout.step_place s) old new) ∙ ap (sets w (Layout.step_place s)) (sym (steps_next 0 0 g k));
        }

pub rule_end : {w : List ℕ} {s : ℕ} {rules : List ℕ} {n : ℕ} {steps combinators : List ℕ} {p c k : ℕ} {x : List ℕ} → Ruling w s rules n steps combinators p c k x → n ≤ k
    → x ≡ sets w (Layout.step_place s) (steps_words (rules_given 0 0 (given rules steps combinators [] [] []) n))
rule_end {n = n} {k = k} r h = let e : k ≡ n = omega (arith, r.within) in rw e at r.laid

-- ---- the rows of the rules

pub record Rowing (w : List ℕ) (r : ℕ) (rules : List ℕ) (n origin source s e a b k : ℕ) (x : List ℕ) : Type 0 where
  pub within : k ≤ n
  pub size : length x ≡ length w
  pub steps_end : a ≡ s + step_total (given rules [] [] [] [] []) k
  pub entries_end : b ≡ e + entry_total (given rules [] [] [] [] []) k
  pub steps_few : a ≤ s + 8 * k
  pub entries_few : b ≤ e + 32 * k
  pub laid : x ≡ sets w (Layout.RULE-ORIGIN + Layout.RULE-WORDS * r) (rule_words s e (rules_given origin source (given rules [] [] [] [] []) k))

pub row_start : {w : List ℕ} {r : ℕ} {rules : List ℕ} {n origin source s e : ℕ} (a b : ℕ) → a ≡ s → b ≡ e → Rowing w r rules n origin source s e a b 0 w
row_start a b p q = unfold rules_given rule_words sum_below in (record { within = omega arith; size = refl; steps_end = omega arith; entries_end = omega arith; steps_few = omega arith; entries_few = omega arith; laid = refl })

module _ {w : List ℕ} {r : ℕ} {rules : List ℕ} {n origin source s e a b k : ℕ} {x : List ℕ} (i : Rowing w r rules n origin source s e a b k x)
    {steps combinators : List ℕ} (room : r + n ≤ 256) (steps_room : s ≤ 2048) (entries_room : e ≤ 4096) (fits : SelectorsFit (given rules steps combinators [] [] []) n) (listed : EntriesFit (given rules [] [] [] [] []) n) (h : k < n) where
  pub row_steps : (v t : ℕ) → v ≡ get_or rules (3 * k) 0 → t ≡ v → t ≤ 8
  row_steps v t p q = omega (arith, (fits k h).few)

  pub row_entries : (v t : ℕ) → v ≡ get_or rules (3 * k + 2) 0 → t ≡ v → t ≤ 32
  row_entries v t p q = omega (arith, listed k h)

  pub row_steps_fit : (v t : ℕ) → v ≡ get_or rules (3 * k) 0 → t ≡ v → Fits w32 (a + t)
  row_steps_fit v t p q = record { fits = omega (arith, row_steps v t p q, i.steps_few) }

  pub row_entries_fit : (v t : ℕ) → v ≡ get_or rules (3 * k + 2) 0 → t ≡ v → Fits w32 (b + t)
  row_entries_fit v t p q = record { fits = omega (arith, row_entries v t p q, i.entries_few) }

  pub row_more : (r' v t u m : ℕ) (y : List ℕ) → r' ≡ r → v ≡ get_or rules (3 * k) 0 → t ≡ v → u ≡ get_or rules (3 * k + 2) 0 → m ≡ u
      → y ≡ sets x (Layout.RULE-ORIGIN + Layout.RULE-WORDS * (r' + k)) (origin ∷ source ∷ k ∷ (a + t) ∷ (b + m) ∷ [])
      → Rowing w r rules n origin source s e (a + t) (b + m) (k + 1) y
  row_more r' v t u m y z p q o j l =
      let g = given rules [] [] [] [] [] in
      let old = rule_words s e (rules_given origin source g k) in
      let new = origin ∷ source ∷ k ∷ (s + step_total g k + step_count g k) ∷ (e + entry_total g k + entry_count g k) ∷ [] in
      let at : Layout.RULE-ORIGIN + Layout.RULE-WORDS * (r' + k) ≡ Layout.RULE-ORIGIN + Layout.RULE-WORDS * r + length old = omega (arith, rows_length s e origin source g k) in
      record {
        within = omega arith;
        size = ap length l ∙ length-sets x _ (origin ∷ source ∷ k ∷ (a + t) ∷ (b + m) ∷ []) ∙ i.size;
        steps_end = omega (arith, sum_next (step_count g) k, i.steps_end);
        entries_end = omega (arith, sum_next (entry_count g) k, i.entries_end);
        steps_few = omega (arith, row_steps v t p q, i.steps_few);
        entries_few = omega (arith, row_entries u m o j, i.entries_few);
        laid = l ∙ rw (at, i.laid, q, p, j, o, i.steps_end, i.entries_end) (sets_append w (Layout.RULE-ORIGIN + Layout.RULE-WORDS * r) old new) ∙ ap (sets w (Layout.RULE-ORIGIN + Layout.RULE-WORDS * r)) (sym (rows_next s e origin source g k));
      }

pub row_end : {w : List ℕ} {r : ℕ} {rules : List ℕ} {n origin source s e a b k : ℕ} {x : List ℕ} → Rowing w r rules n origin source s e a b k x → n ≤ k
    → x ≡ sets w (Layout.RULE-ORIGIN + Layout.RULE-WORDS * r) (rule_words s e (rules_given origin source (given rules [] [] [] [] []) n))
row_end {n = n} {k = k} i h = let q : k ≡ n = omega (arith, i.within) in rw q at i.laid

-- ---- sums

pub record Thirds (rules : List ℕ) (which n sum k : ℕ) : Type 0 where
  pub within : k ≤ n
  pub same : sum ≡ sum_below (λ j. get_or rules (3 * j + which) 0) k
  pub few : sum ≤ 32 * k

pub third_start : {rules : List ℕ} {which n : ℕ} → Thirds rules which n 0 0
third_start = unfold sum_below in (record { within = omega arith; same = refl; few = omega arith })

module _ {rules : List ℕ} {which n sum k : ℕ} (t : Thirds rules which n sum k) where
  pub third_few : (v m : ℕ) → (n ≤ 256) × (which ≤ 2) × ((j : ℕ) → j < n → get_or rules (3 * j + which) 0 ≤ 32) → k < n → v ≡ get_or rules (3 * k + which) 0 → m ≡ v → m ≤ 32
  third_few v m p h e f = omega (arith, p.2 k h)

  pub third_more : (v m : ℕ) → (n ≤ 256) × (which ≤ 2) × ((j : ℕ) → j < n → get_or rules (3 * j + which) 0 ≤ 32) → k < n → v ≡ get_or rules (3 * k + which) 0 → m ≡ v
      → Thirds rules which n (sum + m) (k + 1)
  third_more v m p h e f = record {
    within = omega arith;
    same = omega (arith, sum_next (λ j. get_or rules (3 * j + which) 0) k, t.same);
    few = omega (arith, third_few v m p h e f, t.few);
  }

  pub third_end : n ≤ k → sum ≡ sum_below (λ j. get_or rules (3 * j + which) 0) n
  third_end h = let e : k ≡ n = omega (arith, t.within) in rw e at t.same

pub record Counting (rules : List ℕ) (n : ℕ) (steps combinators : List ℕ) (sum p k : ℕ) : Type 0 where
  pub within : k ≤ n
  pub behind : p ≡ step_total (given rules steps combinators [] [] []) k
  pub same : sum ≡ id_total (given rules steps combinators [] [] []) k
  pub behind_few : p ≤ 8 * k
  pub few : sum ≤ 128 * k

pub id_start : {rules : List ℕ} {n : ℕ} {steps combinators : List ℕ} → Counting rules n steps combinators 0 0 0
id_start = unfold sum_below in (record { within = omega arith; behind = refl; same = refl; behind_few = omega arith; few = omega arith })

module _ {rules : List ℕ} {n : ℕ} {steps combinators : List ℕ} {sum p k : ℕ} (t : Counting rules n steps combinators sum p k) where
  module _ (f : SelectorsFit (given rules steps combinators [] [] []) n) (h : k < n) (v count : ℕ) (e : v ≡ get_or rules (3 * k) 0) (q : count ≡ v)
      (l : List ℕ) (a : l ≡ drop (22 * p) steps) where
    pub ids_count : count ≤ 8
    ids_count = omega (arith, (f k h).few)

    pub ids_rows : all_below count (λ (i : ℕ). row_fits 8 l (22 * i)) ≡ true
    ids_rows = rw (q, e, a, t.behind) (f k h).rows

    pub id_more : (m : ℕ) → Ids l count m → Counting rules n steps combinators (sum + m) (p + count) (k + 1)
    id_more m d =
        let g = given rules steps combinators [] [] [] in
        let o : m ≡ ids_held (selector_given g k) = unfold selector_given in (d.same ∙ rw (q, e, a, t.behind) (ids_untied (steps_from g k) [] (combinators_from g k) (step_count g k))) in
        record {
          within = omega arith;
          behind = omega (arith, sum_next (step_count g) k, t.behind);
          same = omega (arith, sum_next (λ j. ids_held (selector_given g j)) k, t.same);
          behind_few = omega (arith, (f k h).few, t.behind_few);
          few = omega (arith, d.few, t.few);
        }

  pub id_end : n ≤ k → sum ≡ id_total (given rules steps combinators [] [] []) n
  id_end h = let e : k ≡ n = omega (arith, t.within) in rw e at t.same

-- ---- the counts after

module _ {c : Counts} {rules : List ℕ} {n : ℕ} {steps combinators : List ℕ}
    (within : Within c) (few : n ≤ 256) (fits : SelectorsFit (given rules steps combinators [] [] []) n) (listed : EntriesFit (given rules [] [] [] [] []) n) where
  pub steps_asks : (n ≤ 256) × (0 ≤ 2) × ((k : ℕ) → k < n → get_or rules (3 * k + 0) 0 ≤ 32)
  steps_asks = (few, omega arith, λ k h. let z : 3 * k + 0 ≡ 3 * k = omega arith in rw z (omega (arith, (fits k h).few)))

  steps_are : sum_below (λ k. get_or rules (3 * k + 0) 0) n ≡ step_total (given rules [] [] [] [] []) n
  steps_are = sum_same (λ k. get_or rules (3 * k + 0) 0) (λ k. get_or rules (3 * k) 0) n (λ k h. let z : 3 * k + 0 ≡ 3 * k = omega arith in rw z)

  module _ (a : ℕ) (e : a ≡ sum_below (λ k. get_or rules (3 * k + 0) 0) n) where
    steps_few : a ≤ 8 * n
    steps_few = omega (arith, steps_are, sum_bound (step_count (given rules [] [] [] [] [])) 8 n (λ k h. (fits k h).few))

    pub steps_fit_lem : Fits w32 a
    steps_fit_lem = record { fits = omega (arith, steps_few, few) }

    pub steps_sum_fit : Fits w32 (c.steps + a)
    steps_sum_fit = record { fits = omega (arith, steps_few, few, within.steps) }

  module _ (a : ℕ) (e : a ≡ sum_below (λ k. get_or rules (3 * k + 2) 0) n) where
    entries_few : a ≤ 32 * n
    entries_few = omega (arith, sum_bound (λ k. get_or rules (3 * k + 2) 0) 32 n listed)

    pub entry_sum_fits : Fits w32 a
    entry_sum_fits = record { fits = omega (arith, entries_few, few) }

    pub entries_sum_fit : Fits w32 (c.entries + a)
    entries_sum_fit = record { fits = omega (arith, entries_few, few, within.entries) }

  module _ (a : ℕ) (e : a ≡ id_total (given rules steps combinators [] [] []) n) where
    pub ids_fit_lem : Fits w32 a
    ids_fit_lem = record { fits = omega (arith, id_total_few (given rules steps combinators [] [] []) n fits, few) }

    pub ids_sum_fit : Fits w32 (c.ids + a)
    ids_sum_fit = record { fits = omega (arith, id_total_few (given rules steps combinators [] [] []) n fits, few, within.ids) }

  pub next_fits_lem : Fits w32 (c.next + 1)
  next_fits_lem = record { fits = omega (arith, within.next) }

  pub counts_after : (a b d : ℕ) → a ≡ sum_below (λ k. get_or rules (3 * k + 0) 0) n → b ≡ sum_below (λ k. get_or rules (3 * k + 2) 0) n → d ≡ id_total (given rules steps combinators [] [] []) n
      → ◌≡◌ {A = Counts} (record { rules = c.rules + n; steps = c.steps + a; ids = c.ids + d; entries = c.entries + b; styles = c.styles; style_entries = c.style_entries; next = c.next + 1 })
      (record { rules = c.rules + n; steps = c.steps + step_total (given rules [] [] [] [] []) n; ids = c.ids + id_total (given rules steps combinators [] [] []) n; entries = c.entries + entry_total (given rules [] [] [] [] []) n; styles = c.styles; style_entries = c.style_entries; next = c.next + 1 })
  counts_after a b d e g h = rw (e, steps_are, g, h)

-- ---- all but the counts

module _ (origin next r s e e' n t : ℕ) (rules steps combinators properties kinds numbers w x y z : List ℕ) where
  pub parts_put : t ≡ sum_below (λ k. get_or rules (3 * k + 2) 0) n → e' ≡ e
      → x ≡ lay_entries Layout.ENTRY Layout.ENTRY-ROOM e' (entries_of properties kinds numbers t) w
      → y ≡ sets x (Layout.step_place s) (steps_words (rules_given 0 0 (given rules steps combinators [] [] []) n))
      → z ≡ sets y (Layout.RULE-ORIGIN + Layout.RULE-WORDS * r) (rule_words s e (rules_given origin next (given rules [] [] [] [] []) n))
      → z ≡ lay_rules r s e (rules_given origin next (given rules steps combinators properties kinds numbers) n) w
  unfolding lay_rules
  parts_put a f h i j =
      let whole = given rules steps combinators properties kinds numbers in
      j ∙ rw (i, h, a, f, entries_all origin next whole n, steps_same 0 0 origin next rules steps combinators [] [] [] properties kinds numbers n, rows_same s e origin next rules [] [] [] [] [] steps combinators properties kinds numbers n)

-- ---- a group

module _ (w : List ℕ) (origin : ℕ) (rules : List ℕ) (n : ℕ) (steps combinators properties kinds numbers : List ℕ)
    (v : group_verdict w origin (given rules steps combinators properties kinds numbers) n ≡ 0) (c : Counts) (h : CountsOf w c) where
  ok : GroupAccepted w origin (given rules steps combinators properties kinds numbers) n
  ok = group_accepted w origin (given rules steps combinators properties kinds numbers) n v

  group_within : Within c
  group_within = counts_within h (shaped w ok.shape)

  group_selectors : SelectorsFit (given rules steps combinators [] [] []) n
  group_selectors k l = let z = selectors_fit (Layout.ids_in w) (all_entries_in w) (given rules steps combinators properties kinds numbers) n ok.each k l in record { few = z.few; ties = z.ties; rows = z.rows; codes = z.codes }

  group_entries : EntriesFit (given rules [] [] [] [] []) n
  group_entries k l = (ok.each k l).sized.counted.few

  steps_room : c.steps + 8 * n ≤ 2048
  steps_room =
      let s = shaped w ok.shape in
      let a = ends_few (rule_step_ends w) 8 (Layout.rules_in w) (λ k l. (s.each_rule k l).steps.few) in
      omega (arith, a, s.steps_end, ok.rules, h.steps)

  pub group_asks : Within c × (c.rules + n ≤ 256) × (c.steps + 8 * n ≤ 2048) × SelectorsFit (given rules steps combinators [] [] []) n × EntriesFit (given rules [] [] [] [] []) n
  group_asks = (group_within, omega (arith, ok.rules, h.rules), steps_room, group_selectors, group_entries)

  pub lists_long : (entry_total (given rules [] [] [] [] []) n ≤ length properties) × (entry_total (given rules [] [] [] [] []) n ≤ length kinds) × (entry_total (given rules [] [] [] [] []) n ≤ length numbers)
  lists_long = (
    sum_within (entry_count (given rules steps combinators properties kinds numbers)) properties n (λ k l. (ok.each k l).sized.counted.in_properties),
    sum_within (entry_count (given rules steps combinators properties kinds numbers)) kinds n (λ k l. (ok.each k l).sized.counted.in_kinds),
    sum_within (entry_count (given rules steps combinators properties kinds numbers)) numbers n (λ k l. (ok.each k l).sized.counted.in_numbers),
  )

  pub group_put : (x y : List ℕ) (d : Counts)
      → x ≡ lay_rules c.rules c.steps c.entries (rules_given origin c.next (given rules steps combinators properties kinds numbers) n) w
      → d ≡ record { rules = c.rules + n; steps = c.steps + step_total (given rules [] [] [] [] []) n; ids = c.ids + id_total (given rules steps combinators [] [] []) n; entries = c.entries + entry_total (given rules [] [] [] [] []) n; styles = c.styles; style_entries = c.style_entries; next = c.next + 1 }
      → y ≡ sets x 0 (counts_list d)
      → y ≡ pushed_group w origin (given rules steps combinators properties kinds numbers) n
  unfolding pushed_group lay lay_styles style_words count_words selector_given
  group_put x y d e f g =
      let o = Layout.next_in w in
      let whole = given rules steps combinators properties kinds numbers in
      g ∙ rw (f, e, h.rules, h.steps, h.ids, h.entries, h.styles, h.style_entries_lem, h.next, length_rules origin o whole n, step_total_lem origin o whole n, entry_total_lem origin o whole n, id_total_lem origin o whole n)
      (unfold flat_map lay_entries in (simp add-zero))
