-- What each function of src/held.rt leaves, by what those that it calls said. Assumes nothing.
use mathlib.Core.Path.{◌≡◌, refl, ap, ◌∙◌}
use mathlib.Core.Bool.{Bool, true, false}
use mathlib.Core.List.{List, [], ◌∷◌, map, flat_map}
use Prim.Native.Nat.{ℕ, ◌+◌, ◌-◌, ◌*◌, ◌≤◌, ◌<◌}
use native.Mathlib.Omega.{arith}
use lib.ListN.{length, take, drop}
use lib.Seq.{sets, length-sets}
use Rattle.theory.specs.Lists.{spread}
use Rattle.lent.specs.Pool.{ends_in}
use Rattle.lent.proofs.Placing.{sets_append}
use Rattle.selector.specs.Checks.{row_fits}
use Rattle.sheet.specs.Layout
use Rattle.sheet.specs.Sheets.{is_nil, rule_step_ends, rule_entry_ends, style_entry_ends, part_at, entry_at, sheet_of}
use Rattle.sheet.specs.Shape.{sheet_shape}
use Rattle.sheet.specs.Laying.{step_words, rule_words, style_words, lay_entries, lay_rules, lay_styles, count_words, lay}
use Rattle.sheet.proofs.Shaped.{shaped, row_from, step_end_within, entry_end_within, style_entry_end_within}
use Rattle.given.specs.declared.Counts.{Counts}
use Rattle.given.specs.Pushing.{indexes_of, shift_style, shift_rule, largest, next_after, pushed_cascade}
use Rattle.given.specs.Leaves.{CountsOf, part_of, held_row, held_style_row, counts_list, sum_counts}
use Rattle.laid.proofs.Frame.{length_step}
use Rattle.merge.proofs.Joined.{rows_below, rows_none, rows_more, length_below, held_part, step_rows, rule_rows, style_rows, pool_columns, entries_all, style_entries_all, step_words_all, ids_all, rules_many, steps_many, entries_many, styles_many, style_entries_many, index_most}

-- ---- a pool

-- a part of n words, as it was asked for
part_words : (v x : List ℕ) (a n n' : ℕ) → n' ≡ n → x ≡ take (a + n' - a) (drop a v) → x ≡ take n (drop a v)
part_words v x a n n' e p = let z : a + n' - a ≡ n = omega arith in rw z at p

module _ (v w w₁ w₂ w₃ x₁ x₂ x₃ : List ℕ) (base room e n e₁ e₂ e₃ n₁ n₂ n₃ : ℕ) where
  pub pool_put : base + 3 * room ≤ length v
      → n ≤ room
      → e₁ ≡ e
      → n₁ ≡ n
      → x₁ ≡ take (base + n₁ - base) (drop base v)
      → w₁ ≡ sets w (base + e₁) x₁
      → e₂ ≡ e
      → n₂ ≡ n
      → x₂ ≡ take (base + room + n₂ - (base + room)) (drop (base + room) v)
      → w₂ ≡ sets w₁ (base + room + e₂) x₂
      → e₃ ≡ e
      → n₃ ≡ n
      → x₃ ≡ take (base + 2 * room + n₃ - (base + 2 * room)) (drop (base + 2 * room) v)
      → w₃ ≡ sets w₂ (base + 2 * room + e₃) x₃
      → w₃ ≡ lay_entries base room e (spread (entry_at v base room) 0 n) w
  unfolding lay_entries
  pool_put h k a₁ b₁ p₁ q₁ a₂ b₂ p₂ q₂ a₃ b₃ p₃ q₃ =
      let (c₁, c₂, c₃) = pool_columns v base room n h k in
      rw (
        q₃,
        q₂,
        q₁,
        a₁,
        a₂,
        a₃,
        part_words v x₁ base n n₁ b₁ p₁ ∙ c₁,
        part_words v x₂ (base + room) n n₂ b₂ p₂ ∙ c₂,
        part_words v x₃ (base + 2 * room) n n₃ b₃ p₃ ∙ c₃,
      )

-- ---- rows, one after the other

-- k of n rows are stored in w, from `at` on
pub record Laying (row : ℕ → List ℕ) (at n : ℕ) (w : List ℕ) (k : ℕ) (w' : List ℕ) : Type 0 where
  pub within : k ≤ n
  pub same : length w' ≡ length w
  pub is : w' ≡ sets w at (rows_below row k)

pub lay_none : {row : ℕ → List ℕ} {at n : ℕ} {w : List ℕ} → Laying row at n w 0 w
lay_none {row} = record { within = omega arith; same = refl; is = rw (rows_none row) }

module _ {row : ℕ → List ℕ} {at n k : ℕ} {w w' : List ℕ} (l : Laying row at n w k w') where
  lay_more : (width : ℕ) → ((i : ℕ) → length (row i) ≡ width) → k < n → (a : ℕ) (w'' : List ℕ) → a ≡ at + width * k → w'' ≡ sets w' a (row k) → Laying row at n w (k + 1) w''
  lay_more width h g a w'' e f = record {
    within = omega arith;
    same = ap length f ∙ length-sets w' a (row k) ∙ l.same;
    is = rw (f, e, ← length_below row width k h, l.is, rows_more row k) (sets_append w at (rows_below row k) (row k));
  }

  lay_all : n ≤ k → w' ≡ sets w at (rows_below row n)
  lay_all h = let e : n ≡ k = let b = l.within in omega arith in rw e l.is

-- ---- steps

module _ (v : List ℕ) (n j : ℕ) (e : sheet_shape v ≡ true) (h : n ≤ Layout.steps_in v) (g : j < n) where
  -- a step that is held can be stored
  pub step_small : j < 2048
  step_small = let s = (shaped v e).steps in omega arith

  pub step_asked : (code at : ℕ) → code ≡ ends_in v Layout.STEP-COMBINATOR Layout.STEP-WORDS j → at ≡ Layout.step_place j → (at < 4294967000) × (code ≤ 1) × (row_fits 8 v at ≡ true)
  step_asked code at p q =
      let s = (shaped v e).each_step j (omega arith) in
      let k = step_small in
      (omega arith, rw p s.combinator, rw q (row_from v j s))

  pub step_next : (s code at : ℕ) (w w' w'' : List ℕ)
      → Laying (λ i. step_words (part_at v i)) (Layout.step_place s) n w j w'
      → code ≡ ends_in v Layout.STEP-COMBINATOR Layout.STEP-WORDS j
      → at ≡ Layout.step_place j
      → w'' ≡ sets w' (Layout.step_place (s + j)) (step_words (part_of v at code))
      → Laying (λ i. step_words (part_at v i)) (Layout.step_place s) n w (j + 1) w''
  step_next s code at w w' w'' l p q r =
      lay_more l 23 (λ i. length_step (part_at v i)) g (Layout.step_place (s + j)) w'' (omega arith)
      (r ∙ ap (λ x. sets w' (Layout.step_place (s + j)) (step_words x)) (rw (p, q) (held_part ((shaped v e).each_step j (omega arith)))))

pub steps_end : (v : List ℕ) (s n j : ℕ) (w w' : List ℕ)
    → Laying (λ i. step_words (part_at v i)) (Layout.step_place s) n w j w'
    → n ≤ j
    → n ≡ Layout.steps_in v
    → w' ≡ sets w (Layout.step_place s) (flat_map step_words (spread (part_at v) 0 (Layout.steps_in v)))
steps_end v s n j w w' l h e = rw (← e, ← step_rows v n) (lay_all l h)

-- ---- rules

-- the numbers of a rule and of a style
pub record RuleNumbers (v : List ℕ) (k : ℕ) : Type 0 where
  pub source : ends_in v Layout.RULE-SOURCE Layout.RULE-WORDS k ≤ 65535
  pub steps : rule_step_ends v k ≤ 2048
  pub entries : rule_entry_ends v k ≤ 4096
  pub here : k < 256

pub rule_numbers_lem : (v : List ℕ) (k : ℕ) → sheet_shape v ≡ true → k < Layout.rules_in v → RuleNumbers v k
rule_numbers_lem v k e h =
    let s = shaped v e in
    let a = s.rules in
    let b = s.steps in
    let d = s.entries in
    record {
      source = (s.each_rule k h).source;
      steps = omega (arith, step_end_within s k h);
      entries = omega (arith, entry_end_within s k h);
      here = omega arith;
    }

pub record StyleNumbers (v : List ℕ) (k : ℕ) : Type 0 where
  pub source : ends_in v Layout.STYLE-SOURCE Layout.STYLE-WORDS k ≤ 65535
  pub entries : style_entry_ends v k ≤ 2048
  pub here : k < 64

pub style_numbers_lem : (v : List ℕ) (k : ℕ) → sheet_shape v ≡ true → k < Layout.styles_in v → StyleNumbers v k
style_numbers_lem v k e h =
    let s = shaped v e in
    let a = s.styles in
    let b = s.style_entries_lem in
    record { source = (s.each_style k h).source; entries = omega (arith, style_entry_end_within s k h); here = omega arith }

module _ (c : Counts) (v w w' : List ℕ) (k : ℕ) where
  pub rule_put : (r o s d t e : ℕ)
      → r ≡ c.rules + k
      → o ≡ ends_in v Layout.RULE-ORIGIN Layout.RULE-WORDS k
      → s ≡ ends_in v Layout.RULE-SOURCE Layout.RULE-WORDS k
      → d ≡ ends_in v Layout.RULE-ORDER Layout.RULE-WORDS k
      → t ≡ rule_step_ends v k
      → e ≡ rule_entry_ends v k
      → w' ≡ sets w (Layout.RULE-ORIGIN + Layout.RULE-WORDS * r) (o ∷ (c.next + s) ∷ d ∷ (c.steps + t) ∷ (c.entries + e) ∷ [])
      → w' ≡ sets w (Layout.RULE-ORIGIN + Layout.RULE-WORDS * (c.rules + k)) (held_row c v k)
  rule_put r o s d t e f g h i j l p = p ∙ rw (f, g, h, i, j, l)

  pub style_put : (d o s e : ℕ)
      → d ≡ c.styles + k
      → o ≡ ends_in v Layout.STYLE-ORIGIN Layout.STYLE-WORDS k
      → s ≡ ends_in v Layout.STYLE-SOURCE Layout.STYLE-WORDS k
      → e ≡ style_entry_ends v k
      → w' ≡ sets w (Layout.STYLE-ORIGIN + Layout.STYLE-WORDS * d) (o ∷ (c.next + s) ∷ (c.style_entries + e) ∷ [])
      → w' ≡ sets w (Layout.STYLE-ORIGIN + Layout.STYLE-WORDS * (c.styles + k)) (held_style_row c v k)
  style_put d o s e f g h i p = p ∙ rw (f, g, h, i)

module _ (c : Counts) (v w w' : List ℕ) (n k : ℕ) where
  pub rule_next : (w'' : List ℕ)
      → Laying (held_row c v) (Layout.RULE-ORIGIN + Layout.RULE-WORDS * c.rules) n w k w'
      → k < n
      → w'' ≡ sets w' (Layout.RULE-ORIGIN + Layout.RULE-WORDS * (c.rules + k)) (held_row c v k)
      → Laying (held_row c v) (Layout.RULE-ORIGIN + Layout.RULE-WORDS * c.rules) n w (k + 1) w''
  rule_next w'' l h p = lay_more l 5 (λ i. refl) h (Layout.RULE-ORIGIN + Layout.RULE-WORDS * (c.rules + k)) w'' (omega arith) p

  pub rules_end : Laying (held_row c v) (Layout.RULE-ORIGIN + Layout.RULE-WORDS * c.rules) n w k w'
      → n ≤ k
      → n ≡ Layout.rules_in v
      → sheet_shape v ≡ true
      → w' ≡ sets w (Layout.RULE-ORIGIN + Layout.RULE-WORDS * c.rules) (rule_words c.steps c.entries (map (shift_rule c.next) (sheet_of v).rules))
  rules_end l h p e = rw (← rule_rows (shaped v e) c, ← p) (lay_all l h)

  pub style_next : (w'' : List ℕ)
      → Laying (held_style_row c v) (Layout.STYLE-ORIGIN + Layout.STYLE-WORDS * c.styles) n w k w'
      → k < n
      → w'' ≡ sets w' (Layout.STYLE-ORIGIN + Layout.STYLE-WORDS * (c.styles + k)) (held_style_row c v k)
      → Laying (held_style_row c v) (Layout.STYLE-ORIGIN + Layout.STYLE-WORDS * c.styles) n w (k + 1) w''
  style_next w'' l h p = lay_more l 3 (λ i. refl) h (Layout.STYLE-ORIGIN + Layout.STYLE-WORDS * (c.styles + k)) w'' (omega arith) p

  pub styles_end : Laying (held_style_row c v) (Layout.STYLE-ORIGIN + Layout.STYLE-WORDS * c.styles) n w k w'
      → n ≤ k
      → n ≡ Layout.styles_in v
      → sheet_shape v ≡ true
      → w' ≡ sets w (Layout.STYLE-ORIGIN + Layout.STYLE-WORDS * c.styles) (style_words c.style_entries (map (shift_style c.next) (sheet_of v).styles))
  styles_end l h p e = rw (← style_rows (shaped v e) c, ← p) (lay_all l h)

-- ---- all rules, all styles

-- the pools that are copied
module _ (v : List ℕ) (n : ℕ) (e : sheet_shape v ≡ true) where
  pub pool_asked : n ≡ Layout.entries_in v → (48392 ≤ 100000) × (4096 ≤ 4096) × (48392 + 3 * 4096 ≤ length v) × (n ≤ 4096)
  pool_asked p =
      let s = shaped v e in
      let a = s.room in
      let b = s.entries in
      (omega arith, omega arith, omega arith, omega arith)

  pub style_pool_asked : n ≡ Layout.style_entries_in v → (60872 ≤ 100000) × (2048 ≤ 4096) × (60872 + 3 * 2048 ≤ length v) × (n ≤ 2048)
  style_pool_asked p =
      let s = shaped v e in
      let a = s.room in
      let b = s.style_entries_lem in
      (omega arith, omega arith, omega arith, omega arith)

module _ (c : Counts) (v w w₁ w₂ : List ℕ) (n : ℕ) (e : sheet_shape v ≡ true) where
  pub rules_laid : (w₃ : List ℕ) (m : ℕ)
      → n ≡ Layout.entries_in v
      → w₁ ≡ lay_entries Layout.ENTRY Layout.ENTRY-ROOM c.entries (spread (entry_at v Layout.ENTRY Layout.ENTRY-ROOM) 0 n) w
      → m ≡ Layout.steps_in v
      → w₂ ≡ sets w₁ (Layout.step_place c.steps) (flat_map step_words (spread (part_at v) 0 m))
      → w₃ ≡ sets w₂ (Layout.RULE-ORIGIN + Layout.RULE-WORDS * c.rules) (rule_words c.steps c.entries (map (shift_rule c.next) (sheet_of v).rules))
      → w₃ ≡ lay_rules c.rules c.steps c.entries (map (shift_rule c.next) (sheet_of v).rules) w
  unfolding lay_rules
  rules_laid w₃ m p f q g h = rw (entries_all (shaped v e) c.next, step_words_all (shaped v e) c.next, ← p, ← q, ← f, ← g) h

  pub styles_laid : n ≡ Layout.style_entries_in v
      → w₁ ≡ lay_entries Layout.STYLE-ENTRY Layout.STYLE-ENTRY-ROOM c.style_entries (spread (entry_at v Layout.STYLE-ENTRY Layout.STYLE-ENTRY-ROOM) 0 n) w
      → w₂ ≡ sets w₁ (Layout.STYLE-ORIGIN + Layout.STYLE-WORDS * c.styles) (style_words c.style_entries (map (shift_style c.next) (sheet_of v).styles))
      → w₂ ≡ lay_styles c.styles c.style_entries (map (shift_style c.next) (sheet_of v).styles) w
  unfolding lay_styles
  styles_laid p f g = rw (style_entries_all (shaped v e) c.next, ← p, ← f) g

-- ---- the next index

pub next_bare : (b : Bool) (next : ℕ) (l : List ℕ) → b ≡ is_nil l → b ≡ true → next ≡ next_after next l
next_bare b next [] e f = refl
next_bare b next (x ∷ l) e f = cc

pub next_more : (b : Bool) (next x : ℕ) (l : List ℕ) → b ≡ is_nil l → b ≡ false → x ≡ largest l → next + x + 1 ≡ next_after next l
next_more b next x [] e f g = cc
next_more b next x (y ∷ l) e f g = rw g

pub largest_small : (v : List ℕ) (x : ℕ) → sheet_shape v ≡ true → x ≡ largest (indexes_of (sheet_of v)) → x ≤ 65535
largest_small v x e f = rw f (index_most (shaped v e))

-- ---- counts, and the whole

abbrev added : Counts → Counts → ℕ → Counts
added c o next = record {
  rules = c.rules + o.rules;
  steps = c.steps + o.steps;
  ids = c.ids + o.ids;
  entries = c.entries + o.entries;
  styles = c.styles + o.styles;
  style_entries = c.style_entries + o.style_entries;
  next = next;
}

pub counts_added : (v : List ℕ) (c o : Counts) (next : ℕ) → CountsOf v o → next ≡ next_after c.next (indexes_of (sheet_of v)) → added c o next ≡ sum_counts c v
counts_added v c o next k e = rw (e, k.rules, k.steps, k.ids, k.entries, k.styles, k.style_entries_lem)

pub cascade_put : (w v w₁ w₂ w₃ : List ℕ) (c r : Counts)
    → sheet_shape v ≡ true
    → CountsOf w c
    → w₁ ≡ lay_rules c.rules c.steps c.entries (map (shift_rule c.next) (sheet_of v).rules) w
    → w₂ ≡ lay_styles c.styles c.style_entries (map (shift_style c.next) (sheet_of v).styles) w₁
    → r ≡ sum_counts c v
    → w₃ ≡ sets w₂ 0 (counts_list r)
    → w₃ ≡ pushed_cascade w v
unfolding pushed_cascade lay count_words
cascade_put w v w₁ w₂ w₃ c r e k p q f g =
    let s = shaped v e in
    let n = Layout.next_in w in
    g
    ∙ rw (
      f,
      q,
      p,
      k.rules,
      k.steps,
      k.ids,
      k.entries,
      k.styles,
      k.style_entries_lem,
      k.next,
      rules_many v n,
      steps_many s n,
      ids_all s n,
      entries_many s n,
      styles_many v n,
      style_entries_many s n,
    )
