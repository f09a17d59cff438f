-- What an addition leaves and what it writes: every word of what the sheet held is kept, and the added words stand after them. Assumes nothing.
use mathlib.Core.Path.{◌≡◌, refl, sym, ap, ◌∙◌}
use mathlib.Core.Bool.{Bool, true, ◌&&◌, ◌||◌}
use mathlib.Core.Logic.{◌⊎◌, inl, inr}
use mathlib.Core.List.{List, [], ◌∷◌, ◌++◌, map, flat_map}
use Prim.Native.Nat.{ℕ, zero, suc, ◌+◌, ◌-◌, ◌*◌, ◌≤◌, ◌<◌}
use native.Mathlib.Nat.{mul-suc, le_of_suc-le-suc}
use native.Mathlib.Omega.{arith}
use lib.ListN.{length, get_or, take, drop, length-append, length-map}
use lib.Seq.{sets, length-sets, length-take-le, split_at}
use lib.Dec.{leb}
use borrow.Author.Tests.{leb-true}
use Rattle.theory.specs.Paths.{Part}
use Rattle.theory.proofs.Lists.{and_left, and_right, or_cases, flat_map_append}
use Rattle.theory.proofs.Spreads.{length_rows}
use Rattle.lent.proofs.Placing.{Placed, placed, writes, Outside, length_writes, writes_outside, writes_inside}
use Rattle.selector.specs.Tags.{Tags}
use Rattle.style.specs.Entries.{Entry}
use Rattle.sheet.specs.Layout
use Rattle.sheet.specs.Sheets.{Style, Rule, entry_at}
use Rattle.sheet.specs.Laying.{id_words, step_words, steps_words, rule_words, style_words, rule_entries, style_entries, steps_of, ids_held, lay_entries, lay_rules, lay_styles, count_words, lay, Free}

-- ---- the sizes

-- What is added has room after what the words hold
pub record Sizes (w : List ℕ) (styles : List Style) (rules : List Rule) : Type 0 where
  pub room : Layout.SHEET-WORDS ≤ length w
  pub rules_fit_lem : Layout.rules_in w + length rules ≤ 256
  pub steps_fit_lem : Layout.steps_in w + length (steps_of rules) ≤ 2048
  pub entries_fit_lem : Layout.entries_in w + length (rule_entries rules) ≤ 4096
  pub styles_fit_lem : Layout.styles_in w + length styles ≤ 64
  pub style_entries_fit_lem : Layout.style_entries_in w + length (style_entries styles) ≤ 2048

-- ---- lengths

pub length_ids : (l : List ℕ) → length (id_words l) ≡ 8
length_ids l = length-take-le 8 (l ++ _) (rw length-append (omega arith))

pub length_step : (p : Part Tags) → length (step_words p) ≡ 23
unfolding step_words
length_step p = simp (length-append, length_ids)

-- the rows of all rules' steps are the rows of all steps
pub steps_flat : (rules : List Rule) → steps_words rules ≡ flat_map step_words (steps_of rules)
unfolding flat_map
steps_flat [] = refl
steps_flat (r ∷ l) = ap (λ x. flat_map step_words r.selector ++ x) (steps_flat l) ∙ sym (flat_map_append step_words r.selector (steps_of l))

pub length_steps : (rules : List Rule) → length (steps_words rules) ≡ 23 * length (steps_of rules)
length_steps rules = rw (steps_flat rules) (length_rows step_words 23 (steps_of rules) (λ p m. length_step p))

pub length_rules : (s e : ℕ) (rules : List Rule) → length (rule_words s e rules) ≡ 5 * length rules
unfolding rule_words
length_rules s e [] = refl
length_rules s e (r ∷ l) = omega (arith, length_rules (s + length r.selector) (e + length r.entries) l, mul-suc 5 (length l))

pub length_styles : (e : ℕ) (styles : List Style) → length (style_words e styles) ≡ 3 * length styles
unfolding style_words
length_styles e [] = refl
length_styles e (d ∷ l) = omega (arith, length_styles (e + length d.entries) l, mul-suc 3 (length l))

-- ---- areas

-- words that are stored inside a stretch, from `low` up to `high`
record Area : Type 0 where
  low : ℕ
  high : ℕ
  put : Placed

abbrev area : ℕ → ℕ → ℕ → List ℕ → Area
area low high at x = record { low = low; high = high; put = placed at x }

abbrev puts : List Area → List Placed
puts [] = []
puts (a ∷ l) = a.put ∷ puts l

-- each stands inside its own
abbrev Inside : List Area → Type 0
Inside [] = Unit {0}
Inside (a ∷ l) = ((a.low ≤ a.put.at) × (a.put.at + length a.put.words ≤ a.high)) × Inside l

-- no stretch of a list has a word of this one's
abbrev apart : Area → List Area → Bool
apart a [] = true
apart a (b ∷ l) = (leb a.high b.low || leb b.high a.low) && apart a l

one_outside : (a b : Area) (i : ℕ) → (b.low ≤ b.put.at) × (b.put.at + length b.put.words ≤ b.high) → (leb a.high b.low || leb b.high a.low) ≡ true
    → a.low ≤ i → i < a.high → (i < b.put.at) ⊎ (b.put.at + length b.put.words ≤ i)
one_outside a b i h e p q = elim (or_cases (leb a.high b.low) (leb b.high a.low) e) [
  | inl k ↦ inl (omega (arith, leb-true a.high b.low k))
  | inr k ↦ inr (omega (arith, leb-true b.high a.low k))
]

module _ (a : Area) (qs : List Area) where
  outside : (l : List Area) (i : ℕ) → Inside l → apart a l ≡ true → a.low ≤ i → i < a.high → Outside i (puts l)
  outside [] i h e p q = tt
  outside (b ∷ l) i h e p q = (one_outside a b i h.0 (and_left _ _ e) p q, outside l i h.1 (and_right (leb a.high b.low || leb b.high a.low) _ e) p q)

  own_end : (ps : List Area) → Inside (ps ++ a ∷ qs) → a.put.at + length a.put.words ≤ a.high
  own_end [] h = h.0.1
  own_end (b ∷ ps) h = own_end ps h.1

  -- the one law, of an area among others: what stands in its stretch before the words stored there is kept,
  area_kept : (ps : List Area) (w : List ℕ) (i : ℕ) → Inside (ps ++ a ∷ qs) → apart a (ps ++ qs) ≡ true → a.low ≤ i → i < a.put.at
      → get_or (writes (puts (ps ++ a ∷ qs)) w) i 0 ≡ get_or w i 0
  area_kept [] w i h e p q = writes_outside (a.put ∷ puts qs) w i (inl q, outside qs i h.1 e p (omega (arith, h.0.1)))
  area_kept (b ∷ ps) w i h e p q =
      area_kept ps (sets w b.put.at b.put.words) i h.1 (and_right (leb a.high b.low || leb b.high a.low) _ e) p q
      ∙ writes_outside (b.put ∷ []) w i (one_outside a b i h.0 (and_left _ _ e) p (omega (arith, own_end ps h.1)), tt)

  -- and the words are there
  area_new : (ps : List Area) (w : List ℕ) (i : ℕ) → Inside (ps ++ a ∷ qs) → apart a (ps ++ qs) ≡ true → a.high ≤ length w → i < length a.put.words
      → get_or (writes (puts (ps ++ a ∷ qs)) w) (a.put.at + i) 0 ≡ get_or a.put.words i 0
  area_new [] w i h e r q =
      let z : a.put.at + i - a.put.at ≡ i = omega arith in
      rw z at (writes_inside [] a.put (puts qs) w (a.put.at + i) (omega arith) (omega arith) (omega arith) (outside qs (a.put.at + i) h.1 e (omega arith) (omega arith)))
  area_new (b ∷ ps) w i h e r q =
      area_new ps (sets w b.put.at b.put.words) i h.1 (and_right (leb a.high b.low || leb b.high a.low) _ e) (rw length-sets r) q

-- the same for area k of a list of them
abbrev nth : List Area → ℕ → Area
nth l k = get_or l k (area 0 0 0 [])

abbrev alone : List Area → ℕ → Bool
alone l k = apart (nth l k) (take k l ++ drop (suc k) l)

module _ (l : List Area) (w : List ℕ) (h : Inside l) (k : ℕ) (n : k < length l) (e : alone l k ≡ true) (i : ℕ) where
  nth_kept : (nth l k).low ≤ i → i < (nth l k).put.at → get_or (writes (puts l) w) i 0 ≡ get_or w i 0
  nth_kept p q =
      let s = sym (split_at l k (area 0 0 0 []) n) in
      rw s at (area_kept (nth l k) (drop (suc k) l) (take k l) w i (rw s h) e p q)

  nth_new : (nth l k).high ≤ length w → i < length (nth l k).put.words → get_or (writes (puts l) w) ((nth l k).put.at + i) 0 ≡ get_or (nth l k).put.words i 0
  nth_new r q =
      let s = sym (split_at l k (area 0 0 0 []) n) in
      rw s at (area_new (nth l k) (drop (suc k) l) (take k l) w i (rw s h) e r q)

pub get_or_map : {A : Type 0} (f : A → ℕ) (l : List A) (j : ℕ) (d : A) → j < length l → get_or (map f l) j 0 ≡ f (get_or l j d)
get_or_map f [] j d h = absurd (omega arith)
get_or_map f (a ∷ l) zero d h = refl
get_or_map f (a ∷ l) (suc j) d h = get_or_map f l j d (le_of_suc-le-suc h)

-- ---- the areas of a sheet, in the order of the stores

abbrev areas : List Style → List Rule → ℕ → List ℕ → List Area
areas styles rules next w =
    area 48392 52488 (48392 + Layout.entries_in w) (map (λ x. x.property) (rule_entries rules))
    ∷ area 52488 56584 (52488 + Layout.entries_in w) (map (λ x. x.kind) (rule_entries rules))
    ∷ area 56584 60680 (56584 + Layout.entries_in w) (map (λ x. x.number) (rule_entries rules))
    ∷ area 1288 48392 (1288 + 23 * Layout.steps_in w) (steps_words rules)
    ∷ area 8 1288 (8 + 5 * Layout.rules_in w) (rule_words (Layout.steps_in w) (Layout.entries_in w) rules)
    ∷ area 60872 62920 (60872 + Layout.style_entries_in w) (map (λ x. x.property) (style_entries styles))
    ∷ area 62920 64968 (62920 + Layout.style_entries_in w) (map (λ x. x.kind) (style_entries styles))
    ∷ area 64968 67016 (64968 + Layout.style_entries_in w) (map (λ x. x.number) (style_entries styles))
    ∷ area 60680 60872 (60680 + 3 * Layout.styles_in w) (style_words (Layout.style_entries_in w) styles)
    ∷ area 0 8 0 (count_words styles rules next w)
    ∷ []

lay_stores : (styles : List Style) (rules : List Rule) (next : ℕ) (w : List ℕ) → lay styles rules next w ≡ writes (puts (areas styles rules next w)) w
unfolding lay lay_rules lay_styles lay_entries
lay_stores styles rules next w = refl

pub length_lay : (styles : List Style) (rules : List Rule) (next : ℕ) (w : List ℕ) → length (lay styles rules next w) ≡ length w
length_lay styles rules next w = rw (lay_stores styles rules next w) (length_writes (puts (areas styles rules next w)) w)

-- ---- every other word

-- THEOREM: "an accepted call leaves what stands past its answer"
pub lay_others : (w : List ℕ) (styles : List Style) (rules : List Rule) (next i : ℕ) → Free w styles rules i → get_or (lay styles rules next w) i 0 ≡ get_or w i 0
unfolding count_words
lay_others w styles rules next i f =
    let n : List Entry = rule_entries rules in
    let m : List Entry = style_entries styles in
    rw (lay_stores styles rules next w)
    (writes_outside (puts (areas styles rules next w)) w i (rw (length-map n (λ x. x.property)) f.properties, (rw (length-map n (λ x. x.kind)) f.kinds, (rw (length-map n (λ x. x.number)) f.numbers, (rw (length_steps rules) f.step_rows, (rw (length_rules (Layout.steps_in w) (Layout.entries_in w) rules) f.rule_rows, (rw (length-map m (λ x. x.property)) f.style_properties, (rw (length-map m (λ x. x.kind)) f.style_kinds, (rw (length-map m (λ x. x.number)) f.style_numbers_lem, (rw (length_styles (Layout.style_entries_in w) styles) f.style_rows, (inr (omega (arith, f.counts)), tt)))))))))))

module _ {w : List ℕ} {styles : List Style} {rules : List Rule} (next : ℕ) (z : Sizes w styles rules) where
  inside : Inside (areas styles rules next w)
  unfolding count_words
  inside =
      let n : List Entry = rule_entries rules in
      let m : List Entry = style_entries styles in
      let a = length-map n (λ x. x.property) in
      let b = length-map n (λ x. x.kind) in
      let c = length-map n (λ x. x.number) in
      let d = length-map m (λ x. x.property) in
      let e = length-map m (λ x. x.kind) in
      let f = length-map m (λ x. x.number) in
      let g = length_steps rules in
      let h = length_rules (Layout.steps_in w) (Layout.entries_in w) rules in
      let i = length_styles (Layout.style_entries_in w) styles in
      (omega arith, (omega arith, (omega arith, (omega arith, (omega arith, (omega arith, (omega arith, (omega arith, (omega arith, (omega arith, tt))))))))))

  -- area k: what is kept before its words, and word i of them, at a
  kept : (k i : ℕ) → k < 10 → alone (areas styles rules next w) k ≡ true → (nth (areas styles rules next w) k).low ≤ i → i < (nth (areas styles rules next w) k).put.at
      → get_or (lay styles rules next w) i 0 ≡ get_or w i 0
  kept k i n e p q = rw (lay_stores styles rules next w) (nth_kept (areas styles rules next w) w inside k n e i p q)

  new : (k a i : ℕ) → k < 10 → alone (areas styles rules next w) k ≡ true → (nth (areas styles rules next w) k).high ≤ length w → i < length (nth (areas styles rules next w) k).put.words
      → a ≡ (nth (areas styles rules next w) k).put.at + i → get_or (lay styles rules next w) a 0 ≡ get_or (nth (areas styles rules next w) k).put.words i 0
  new k a i n e r q f = rw (lay_stores styles rules next w, f) (nth_new (areas styles rules next w) w inside k n e i r q)

  -- ---- the counts

  count : (i : ℕ) → i < 7 → get_or (lay styles rules next w) i 0 ≡ get_or (count_words styles rules next w) i 0
  count i h = new 9 i i (omega arith) refl (omega arith) (unfold count_words in h) (omega arith)

  pub rules_after : Layout.rules_in (lay styles rules next w) ≡ Layout.rules_in w + length rules
  unfolding count_words
  rules_after = count 0 (omega arith)

  pub steps_after : Layout.steps_in (lay styles rules next w) ≡ Layout.steps_in w + length (steps_of rules)
  unfolding count_words
  steps_after = count 1 (omega arith)

  pub ids_after : Layout.ids_in (lay styles rules next w) ≡ Layout.ids_in w + ids_held (steps_of rules)
  unfolding count_words
  ids_after = count 2 (omega arith)

  pub entries_after : Layout.entries_in (lay styles rules next w) ≡ Layout.entries_in w + length (rule_entries rules)
  unfolding count_words
  entries_after = count 3 (omega arith)

  pub styles_after : Layout.styles_in (lay styles rules next w) ≡ Layout.styles_in w + length styles
  unfolding count_words
  styles_after = count 4 (omega arith)

  pub style_entries_after : Layout.style_entries_in (lay styles rules next w) ≡ Layout.style_entries_in w + length (style_entries styles)
  unfolding count_words
  style_entries_after = count 5 (omega arith)

  pub next_after_lem : Layout.next_in (lay styles rules next w) ≡ next
  unfolding count_words
  next_after_lem = count 6 (omega arith)

  -- ---- rows: each word of those before, and word i of those added, at a

  pub rule_kept : (a : ℕ) → 8 ≤ a → a < 8 + 5 * Layout.rules_in w → get_or (lay styles rules next w) a 0 ≡ get_or w a 0
  rule_kept a p q = kept 4 a (omega arith) refl p q

  pub rule_new : (a i : ℕ) → a ≡ 8 + 5 * Layout.rules_in w + i → i < 5 * length rules
      → get_or (lay styles rules next w) a 0 ≡ get_or (rule_words (Layout.steps_in w) (Layout.entries_in w) rules) i 0
  rule_new a i e q = new 4 a i (omega arith) refl (omega arith) (rw length_rules q) e

  pub step_kept : (a : ℕ) → 1288 ≤ a → a < 1288 + 23 * Layout.steps_in w → get_or (lay styles rules next w) a 0 ≡ get_or w a 0
  step_kept a p q = kept 3 a (omega arith) refl p q

  pub step_new : (a i : ℕ) → a ≡ 1288 + 23 * Layout.steps_in w + i → i < 23 * length (steps_of rules) → get_or (lay styles rules next w) a 0 ≡ get_or (steps_words rules) i 0
  step_new a i e q = new 3 a i (omega arith) refl (omega arith) (rw length_steps q) e

  pub style_kept : (a : ℕ) → 60680 ≤ a → a < 60680 + 3 * Layout.styles_in w → get_or (lay styles rules next w) a 0 ≡ get_or w a 0
  style_kept a p q = kept 8 a (omega arith) refl p q

  pub style_new : (a i : ℕ) → a ≡ 60680 + 3 * Layout.styles_in w + i → i < 3 * length styles
      → get_or (lay styles rules next w) a 0 ≡ get_or (style_words (Layout.style_entries_in w) styles) i 0
  style_new a i e q = new 8 a i (omega arith) refl (omega arith) (rw length_styles q) e

  -- ---- entries: the three words of each

  pub entry_kept : (e : ℕ) → e < Layout.entries_in w → entry_at (lay styles rules next w) Layout.ENTRY Layout.ENTRY-ROOM e ≡ entry_at w Layout.ENTRY Layout.ENTRY-ROOM e
  unfolding entry_at
  entry_kept e h = rw (
    kept 0 (48392 + e) (omega arith) refl (omega arith) (omega arith),
    kept 1 (52488 + e) (omega arith) refl (omega arith) (omega arith),
    kept 2 (56584 + e) (omega arith) refl (omega arith) (omega arith),
  )

  pub entry_new : (d : Entry) (j : ℕ) → j < length (rule_entries rules)
      → entry_at (lay styles rules next w) Layout.ENTRY Layout.ENTRY-ROOM (Layout.entries_in w + j) ≡ get_or (rule_entries rules) j d
  unfolding entry_at
  entry_new d j h =
      let l = rule_entries rules in
      rw (
        new 0 (48392 + (Layout.entries_in w + j)) j (omega arith) refl (omega arith) (rw length-map h) (omega arith),
        new 1 (52488 + (Layout.entries_in w + j)) j (omega arith) refl (omega arith) (rw length-map h) (omega arith),
        new 2 (56584 + (Layout.entries_in w + j)) j (omega arith) refl (omega arith) (rw length-map h) (omega arith),
        get_or_map (λ x. x.property) l j d h,
        get_or_map (λ x. x.kind) l j d h,
        get_or_map (λ x. x.number) l j d h,
      )

  pub style_entry_kept : (e : ℕ) → e < Layout.style_entries_in w
      → entry_at (lay styles rules next w) Layout.STYLE-ENTRY Layout.STYLE-ENTRY-ROOM e ≡ entry_at w Layout.STYLE-ENTRY Layout.STYLE-ENTRY-ROOM e
  unfolding entry_at
  style_entry_kept e h = rw (
    kept 5 (60872 + e) (omega arith) refl (omega arith) (omega arith),
    kept 6 (62920 + e) (omega arith) refl (omega arith) (omega arith),
    kept 7 (64968 + e) (omega arith) refl (omega arith) (omega arith),
  )

  pub style_entry_new : (d : Entry) (j : ℕ) → j < length (style_entries styles)
      → entry_at (lay styles rules next w) Layout.STYLE-ENTRY Layout.STYLE-ENTRY-ROOM (Layout.style_entries_in w + j) ≡ get_or (style_entries styles) j d
  unfolding entry_at
  style_entry_new d j h =
      let l = style_entries styles in
      rw (
        new 5 (60872 + (Layout.style_entries_in w + j)) j (omega arith) refl (omega arith) (rw length-map h) (omega arith),
        new 6 (62920 + (Layout.style_entries_in w + j)) j (omega arith) refl (omega arith) (rw length-map h) (omega arith),
        new 7 (64968 + (Layout.style_entries_in w + j)) j (omega arith) refl (omega arith) (rw length-map h) (omega arith),
        get_or_map (λ x. x.property) l j d h,
        get_or_map (λ x. x.kind) l j d h,
        get_or_map (λ x. x.number) l j d h,
      )
