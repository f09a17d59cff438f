-- What a sheet holds, taken together: its steps, entries and ids, and the rows in which they are laid after another sheet's. Assumes nothing.
use mathlib.Core.Path.{◌≡◌, refl, sym, ap, ap₂, ◌∙◌}
use mathlib.Core.Bool.{true}
use mathlib.Core.Logic.{inl, inr}
use mathlib.Core.List.{List, [], ◌∷◌, ◌++◌, map, flat_map}
use Prim.Native.Nat.{ℕ, zero, suc, ◌+◌, ◌-◌, ◌*◌, ◌≤◌}
use native.Mathlib.Nat.{zero-add, add-zero, mul-suc}
use native.Mathlib.Numerals.{add-one}
use native.Mathlib.Omega.{arith}
use lib.ListN.{length, get_or, take, drop, length-append}
use lib.Dec.{leb}
use borrow.Author.Tests.{lt-ltb, le-ltb, leb-true}
use Rattle.theory.specs.Lists.{ascends, at_most, spread}
use Rattle.theory.proofs.Lists.{le_or_lt, and_left, and_right, flat_map_append}
use Rattle.theory.proofs.Spreads.{length_spread, spread_same, spread_snoc, spread_shift, map_spread, part_spread, flat_map_one, at_most_append}
use Rattle.lent.specs.Pool.{ends_in, start_of}
use Rattle.selector.specs.Tags.{Tags, as_sets}
use Rattle.selector.specs.Rows.{row_at}
use Rattle.selector.specs.Checks.{tags_ascend}
use Rattle.sheet.specs.Layout
use Rattle.sheet.specs.Sheets.{Style, Rule, between, rule_step_ends, rule_entry_ends, style_entry_ends, part_at, entry_at, rule_at, style_at, sheet_of}
use Rattle.sheet.specs.Laying.{step_words, steps_words, rule_words, style_words, rule_entries, style_entries, steps_of, ids_held}
use Rattle.sheet.proofs.ReadLaws.{sort_same}
use Rattle.sheet.proofs.Shaped.{Shaped, StepShaped}
use Rattle.laid.proofs.Frame.{steps_flat}
use Rattle.laid.proofs.Held.{first_suc, most_spread, ends_flat, first_ids}
use Rattle.given.specs.Pushing.{indexes_of, shift_style, shift_rule, largest}
use Rattle.joining.proofs.Largest.{indexes_are}
use Rattle.given.specs.declared.Counts.{Counts}
use Rattle.given.specs.Leaves.{part_of, held_row, held_style_row}

-- one more
pub first_more : {A : Type 0} (f : ℕ → A) (n : ℕ) → spread f 0 (n + 1) ≡ spread f 0 n ++ f n ∷ []
first_more f n = rw (zero-add n) at (spread_snoc f 0 n)

-- ---- lists end to end

-- list n ends after those before it
list_end : {A B : Type 0} (g : B → List A) (b : ℕ → B) (f : ℕ → A) (ends : ℕ → ℕ) (n x : ℕ)
    → flat_map g (spread b 0 n) ≡ spread f 0 (start_of ends n)
    → g (b n) ≡ between f ends n
    → start_of ends n ≤ ends n
    → x + ends n ≡ x + length (flat_map g (spread b 0 n)) + length (g (b n))
list_end g b f ends n x p q r =
    rw (p, q, length_spread f 0 (start_of ends n), length_spread f (start_of ends n) (ends n - start_of ends n)) (omega arith)

-- ---- steps as they are held

sets_same : (t : Tags) → tags_ascend t ≡ true → as_sets t ≡ t
sets_same t e = rw (sort_same t.classes (and_left (ascends t.classes) _ e), sort_same t.pseudos (and_right (ascends t.classes) _ e))

-- a held step's ids are sets already
pub held_part : {v : List ℕ} {j : ℕ} → StepShaped v j → part_of v (Layout.step_place j) (ends_in v Layout.STEP-COMBINATOR Layout.STEP-WORDS j) ≡ part_at v j
unfolding part_at
held_part {v} {j} s = rw (sets_same (row_at 8 v (Layout.step_place j)) s.sorted)

-- ---- what a shaped sheet holds, taken together

-- each rule and each style, its index raised by k
abbrev raised_rule : List ℕ → ℕ → ℕ → Rule
raised_rule v k i = shift_rule k (rule_at v i)

abbrev raised_style : List ℕ → ℕ → ℕ → Style
raised_style v k i = shift_style k (style_at v i)

abbrev pub raised_rules : List ℕ → ℕ → ℕ → List Rule
raised_rules v k n = spread (raised_rule v k) 0 n

abbrev pub raised_styles : List ℕ → ℕ → ℕ → List Style
raised_styles v k n = spread (raised_style v k) 0 n

pub rules_raised : (v : List ℕ) (k : ℕ) → map (shift_rule k) (sheet_of v).rules ≡ raised_rules v k (Layout.rules_in v)
unfolding sheet_of
rules_raised v k = map_spread (shift_rule k) (rule_at v) 0 (Layout.rules_in v)

pub styles_raised : (v : List ℕ) (k : ℕ) → map (shift_style k) (sheet_of v).styles ≡ raised_styles v k (Layout.styles_in v)
unfolding sheet_of
styles_raised v k = map_spread (shift_style k) (style_at v) 0 (Layout.styles_in v)

module _ {v : List ℕ} (s : Shaped v) (k : ℕ) where
  -- of the first n rules
  steps_first : (n : ℕ) → n ≤ Layout.rules_in v → steps_of (raised_rules v k n) ≡ spread (part_at v) 0 (start_of (rule_step_ends v) n)
  unfolding rule_at
  steps_first n h = ends_flat (λ r. r.selector) (raised_rule v k) (part_at v) (rule_step_ends v) n (λ i. refl) (λ i l. (s.each_rule i (omega arith)).steps.up)

  entries_first : (n : ℕ) → n ≤ Layout.rules_in v → rule_entries (raised_rules v k n) ≡ spread (entry_at v Layout.ENTRY Layout.ENTRY-ROOM) 0 (start_of (rule_entry_ends v) n)
  unfolding rule_at
  entries_first n h = ends_flat (λ r. r.entries) (raised_rule v k) (entry_at v Layout.ENTRY Layout.ENTRY-ROOM) (rule_entry_ends v) n (λ i. refl) (λ i l. (s.each_rule i (omega arith)).entries.up)

  style_entries_first : (n : ℕ) → n ≤ Layout.styles_in v → style_entries (raised_styles v k n) ≡ spread (entry_at v Layout.STYLE-ENTRY Layout.STYLE-ENTRY-ROOM) 0 (start_of (style_entry_ends v) n)
  unfolding style_at
  style_entries_first n h = ends_flat (λ d. d.entries) (raised_style v k) (entry_at v Layout.STYLE-ENTRY Layout.STYLE-ENTRY-ROOM) (style_entry_ends v) n (λ i. refl) (λ i l. (s.each_style i (omega arith)).entries.up)

  -- of all
  pub steps_all : steps_of (map (shift_rule k) (sheet_of v).rules) ≡ spread (part_at v) 0 (Layout.steps_in v)
  steps_all = rw rules_raised (rw s.steps_end at (steps_first (Layout.rules_in v) (omega arith)))

  pub entries_all : rule_entries (map (shift_rule k) (sheet_of v).rules) ≡ spread (entry_at v Layout.ENTRY Layout.ENTRY-ROOM) 0 (Layout.entries_in v)
  entries_all = rw rules_raised (rw s.entries_end at (entries_first (Layout.rules_in v) (omega arith)))

  pub style_entries_all : style_entries (map (shift_style k) (sheet_of v).styles) ≡ spread (entry_at v Layout.STYLE-ENTRY Layout.STYLE-ENTRY-ROOM) 0 (Layout.style_entries_in v)
  style_entries_all = rw styles_raised (rw s.style_entries_end at (style_entries_first (Layout.styles_in v) (omega arith)))

  pub ids_all : ids_held (steps_of (map (shift_rule k) (sheet_of v).rules)) ≡ Layout.ids_in v
  ids_all = ap ids_held steps_all ∙ first_ids s (Layout.steps_in v) (omega arith) ∙ s.ids_sum

  pub step_words_all : steps_words (map (shift_rule k) (sheet_of v).rules) ≡ flat_map step_words (spread (part_at v) 0 (Layout.steps_in v))
  step_words_all = steps_flat (map (shift_rule k) (sheet_of v).rules) ∙ ap (flat_map step_words) steps_all

module _ (v : List ℕ) (k : ℕ) where
  pub rules_many : length (map (shift_rule k) (sheet_of v).rules) ≡ Layout.rules_in v
  rules_many = rw rules_raised (length_spread (raised_rule v k) 0 (Layout.rules_in v))

  pub styles_many : length (map (shift_style k) (sheet_of v).styles) ≡ Layout.styles_in v
  styles_many = rw styles_raised (length_spread (raised_style v k) 0 (Layout.styles_in v))

module _ {v : List ℕ} (s : Shaped v) (k : ℕ) where
  pub steps_many : length (steps_of (map (shift_rule k) (sheet_of v).rules)) ≡ Layout.steps_in v
  steps_many = ap length (steps_all s k) ∙ length_spread (part_at v) 0 (Layout.steps_in v)

  pub entries_many : length (rule_entries (map (shift_rule k) (sheet_of v).rules)) ≡ Layout.entries_in v
  entries_many = ap length (entries_all s k) ∙ length_spread (entry_at v Layout.ENTRY Layout.ENTRY-ROOM) 0 (Layout.entries_in v)

  pub style_entries_many : length (style_entries (map (shift_style k) (sheet_of v).styles)) ≡ Layout.style_entries_in v
  style_entries_many = ap length (style_entries_all s k) ∙ length_spread (entry_at v Layout.STYLE-ENTRY Layout.STYLE-ENTRY-ROOM) 0 (Layout.style_entries_in v)

-- ---- rows

rules_snoc : (s e : ℕ) (l : List Rule) (r : Rule) (a b : ℕ) → a ≡ s + length (steps_of l) + length r.selector → b ≡ e + length (rule_entries l) + length r.entries
    → rule_words s e (l ++ r ∷ []) ≡ rule_words s e l ++ (r.origin ∷ r.source ∷ r.order ∷ a ∷ b ∷ [])
unfolding rule_words flat_map
rules_snoc s e [] r a b p q =
    let f : a ≡ s + length r.selector = omega arith in
    let g : b ≡ e + length r.entries = omega arith in
    rw (f, g)
rules_snoc s e (x ∷ l) r a b p q =
    ap (λ t. x.origin ∷ x.source ∷ x.order ∷ (s + length x.selector) ∷ (e + length x.entries) ∷ t)
    (rules_snoc (s + length x.selector) (e + length x.entries) l r a b (omega (arith, length-append x.selector (steps_of l))) (omega (arith, length-append x.entries (rule_entries l))))

styles_snoc : (e : ℕ) (l : List Style) (d : Style) (b : ℕ) → b ≡ e + length (style_entries l) + length d.entries → style_words e (l ++ d ∷ []) ≡ style_words e l ++ (d.origin ∷ d.source ∷ b ∷ [])
unfolding style_words flat_map
styles_snoc e [] d b q = let g : b ≡ e + length d.entries = omega arith in rw g
styles_snoc e (x ∷ l) d b q =
    ap (λ t. x.origin ∷ x.source ∷ (e + length x.entries) ∷ t)
    (styles_snoc (e + length x.entries) l d b (omega (arith, length-append x.entries (style_entries l))))

-- the rows of the numbers below n, one after the other
pub rows_below : (ℕ → List ℕ) → ℕ → List ℕ
rows_below row zero = []
rows_below row (suc n) = rows_below row n ++ row n

pub rows_none : (row : ℕ → List ℕ) → rows_below row 0 ≡ []
unfolding rows_below
rows_none row = refl

pub rows_more : (row : ℕ → List ℕ) (n : ℕ) → rows_below row (n + 1) ≡ rows_below row n ++ row n
unfolding rows_below
rows_more row n = rw add-one

pub length_below : (row : ℕ → List ℕ) (width n : ℕ) → ((k : ℕ) → length (row k) ≡ width) → length (rows_below row n) ≡ width * n
unfolding rows_below
length_below row width zero h = omega arith
length_below row width (suc n) h = omega (arith, length-append (rows_below row n) (row n), h n, length_below row width n h, mul-suc width n)

-- steps; rules; direct styles
pub step_rows : (v : List ℕ) (n : ℕ) → rows_below (λ j. step_words (part_at v j)) n ≡ flat_map step_words (spread (part_at v) 0 n)
unfolding rows_below
step_rows v zero = unfold flat_map in refl
step_rows v (suc n) =
    ap₂ ◌++◌ (step_rows v n) (sym (flat_map_one step_words (part_at v n)))
    ∙ sym (flat_map_append step_words (spread (part_at v) 0 n) (part_at v n ∷ []))
    ∙ ap (flat_map step_words) (sym (first_suc (part_at v) n))

module _ {v : List ℕ} (s : Shaped v) (c : Counts) where
  first_rows : (n : ℕ) → n ≤ Layout.rules_in v → rows_below (held_row c v) n ≡ rule_words c.steps c.entries (raised_rules v c.next n)
  unfolding rows_below rule_at
  first_rows zero h = unfold rule_words in refl
  first_rows (suc n) h =
      let r = s.each_rule n h in
      let k = c.next in
      let l : n ≤ Layout.rules_in v = omega arith in
      ap (λ t. t ++ held_row c v n) (first_rows n l)
      ∙ sym (rules_snoc c.steps c.entries (raised_rules v k n) (raised_rule v k n) (c.steps + rule_step_ends v n) (c.entries + rule_entry_ends v n)
      (list_end (λ x. x.selector) (raised_rule v k) (part_at v) (rule_step_ends v) n c.steps (steps_first s k n l) refl r.steps.up)
      (list_end (λ x. x.entries) (raised_rule v k) (entry_at v Layout.ENTRY Layout.ENTRY-ROOM) (rule_entry_ends v) n c.entries (entries_first s k n l) refl r.entries.up))
      ∙ ap (rule_words c.steps c.entries) (sym (first_suc (raised_rule v k) n))

  pub rule_rows : rows_below (held_row c v) (Layout.rules_in v) ≡ rule_words c.steps c.entries (map (shift_rule c.next) (sheet_of v).rules)
  rule_rows = rw rules_raised (first_rows (Layout.rules_in v) (omega arith))

  first_style_rows : (n : ℕ) → n ≤ Layout.styles_in v → rows_below (held_style_row c v) n ≡ style_words c.style_entries (raised_styles v c.next n)
  unfolding rows_below style_at
  first_style_rows zero h = unfold style_words in refl
  first_style_rows (suc n) h =
      let r = s.each_style n h in
      let k = c.next in
      let l : n ≤ Layout.styles_in v = omega arith in
      ap (λ t. t ++ held_style_row c v n) (first_style_rows n l)
      ∙ sym (styles_snoc c.style_entries (raised_styles v k n) (raised_style v k n) (c.style_entries + style_entry_ends v n)
      (list_end (λ x. x.entries) (raised_style v k) (entry_at v Layout.STYLE-ENTRY Layout.STYLE-ENTRY-ROOM) (style_entry_ends v) n c.style_entries (style_entries_first s k n l) refl r.entries.up))
      ∙ ap (style_words c.style_entries) (sym (first_suc (raised_style v k) n))

  pub style_rows : rows_below (held_style_row c v) (Layout.styles_in v) ≡ style_words c.style_entries (map (shift_style c.next) (sheet_of v).styles)
  style_rows = rw styles_raised (first_style_rows (Layout.styles_in v) (omega arith))

-- ---- pools

-- a column of the pool
column : {A : Type 0} (f : ℕ → A) (g : A → ℕ) (v : List ℕ) (a n : ℕ) → ((i : ℕ) → g (f i) ≡ get_or v (a + i) 0) → a + n ≤ length v → take n (drop a v) ≡ map g (spread f 0 n)
column f g v a n h r =
    part_spread v 0 a n r
    ∙ (rw (add-zero a) at (sym (spread_shift (λ i. get_or v i 0) a 0 n)))
    ∙ spread_same (λ i. get_or v (a + i) 0) (λ i. g (f i)) 0 n (λ i p q. sym (h i))
    ∙ sym (map_spread g f 0 n)

-- the first n entries, as they are copied
pub pool_columns : (v : List ℕ) (base room n : ℕ) → base + 3 * room ≤ length v → n ≤ room
    → (take n (drop base v) ≡ map (λ x. x.property) (spread (entry_at v base room) 0 n))
    × (take n (drop (base + room) v) ≡ map (λ x. x.kind) (spread (entry_at v base room) 0 n))
    × (take n (drop (base + 2 * room) v) ≡ map (λ x. x.number) (spread (entry_at v base room) 0 n))
unfolding entry_at
pool_columns v base room n h k = (
  column (entry_at v base room) (λ x. x.property) v base n (λ i. refl) (omega arith),
  column (entry_at v base room) (λ x. x.kind) v (base + room) n (λ i. refl) (omega arith),
  column (entry_at v base room) (λ x. x.number) v (base + 2 * room) n (λ i. refl) (omega arith),
)

-- ---- source indexes

largest_most : (limit : ℕ) (l : List ℕ) → at_most limit l ≡ true → largest l ≤ limit
unfolding largest at_most
largest_most limit [] e = omega arith
largest_most limit (a ∷ l) e = elim (le_or_lt (largest l) a) [
  | inl h ↦ rw (le-ltb a (largest l) h) (leb-true a limit (and_left (leb a limit) _ e))
  | inr h ↦ rw (lt-ltb a (largest l) h) (largest_most limit l (and_right (leb a limit) _ e))
]

-- none is over 65,535
pub index_most : {v : List ℕ} → Shaped v → largest (indexes_of (sheet_of v)) ≤ 65535
index_most {v} s =
    let styles = ends_in v Layout.STYLE-SOURCE Layout.STYLE-WORDS in
    let rules = ends_in v Layout.RULE-SOURCE Layout.RULE-WORDS in
    rw (indexes_are v)
    (largest_most 65535 (spread styles 0 (Layout.styles_in v) ++ spread rules 0 (Layout.rules_in v))
    (at_most_append 65535 (spread styles 0 (Layout.styles_in v)) (spread rules 0 (Layout.rules_in v))
    (most_spread 65535 styles 0 (Layout.styles_in v) (λ i l h. (s.each_style i (omega arith)).source))
    (most_spread 65535 rules 0 (Layout.rules_in v) (λ i l h. (s.each_rule i (omega arith)).source))))
