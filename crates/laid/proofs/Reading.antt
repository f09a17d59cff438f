-- The sheet that the words hold after an addition: the sheet before, and what was added. Assumes nothing.
use mathlib.Core.Path.{◌≡◌, refl, sym, ap, ap₂, ◌∙◌}
use mathlib.Core.Option.{Option, none, some}
use mathlib.Core.List.Memᴰ
use mathlib.Core.List.{List, [], ◌∷◌, ◌++◌, flat_map}
use Prim.Native.Nat.{ℕ, zero, suc, ◌+◌, ◌-◌, ◌*◌, ◌≤◌, ◌<◌}
use native.Mathlib.Nat.{add-zero, zero-add, add_assoc, le_of_suc-le-suc}
use native.Mathlib.Omega.{arith}
use native.Mathlib.Decide.{dec_lt}
use lib.ListN.{length, get_or, take, drop, replicate, length-append, take-append-drop, get_or-append}
use lib.Seq.{take-suc, take-length, drop-cons, drop-nil, get_or-append-add, get_or-drop, get_or-take}
use Rattle.theory.specs.Lists.{◌∈◌, spread}
use Rattle.theory.specs.Paths.{Comb, child, descendant, Part}
use Rattle.theory.proofs.Lists.{flat_map_append}
use Rattle.theory.proofs.Spreads.{spread_same, spread_more, spread_shift, spread_list, part_spread, get_or_rows}
use Rattle.lent.specs.Pool.{ends_in, start_of}
use Rattle.lent.proofs.Pool.{Rising, starts_rise}
use Rattle.selector.specs.Tags.{Tags}
use Rattle.selector.specs.Rows.{tag_of, tag_number, words_from, row_at, comb_of}
use Rattle.selector.specs.Weighing.{is_set}
use Rattle.sheet.specs.Layout
use Rattle.sheet.specs.Sheets.{Style, Rule, between, rule_step_ends, rule_entry_ends, style_entry_ends, part_at, entry_at, rule_at, style_at, sheet_of}
use Rattle.sheet.specs.Laying.{code_of, id_words, step_words, rule_words, style_words, rule_entries, style_entries, steps_of, lay}
use Rattle.laid.proofs.Frame.{Sizes, length_ids, length_step, length_lay, steps_flat, rules_after, steps_after, entries_after, styles_after, style_entries_after, next_after_lem}
use Rattle.laid.proofs.Frame.{rule_kept, rule_new, step_kept, step_new, style_kept, style_new, entry_kept, entry_new, style_entry_kept, style_entry_new}

-- ---- n things, and more after them

-- each of n things, and each of m after them
pub before_or_added : (P : ℕ → Type 0) (n m : ℕ) → ((k : ℕ) → k < n → P k) → ((k : ℕ) → k < m → P (n + k)) → (k : ℕ) → k < n + m → P k
before_or_added P n m f g k h = elim (dec_lt k n) [
  | yes p ↦ f k p
  | no p ↦ let z : k ≡ n + (k - n) = omega arith in rw z (g (k - n) (omega arith))
]

-- a list spread out, by its elements
spread_is : {A : Type 0} (f : ℕ → A) (a : ℕ) (l : List A) (x : A) → ((i : ℕ) → i < length l → f (a + i) ≡ get_or l i x) → spread f a (length l) ≡ l
spread_is f a l x h =
    rw (add-zero a) at (sym (spread_shift f a 0 (length l)))
    ∙ spread_same (λ i. f (a + i)) (λ i. get_or l i x) 0 (length l) (λ i p q. h i (omega arith))
    ∙ spread_list l x

spread_added : {A : Type 0} (f f' : ℕ → A) (n : ℕ) (l : List A) (x : A)
    → ((k : ℕ) → k < n → f' k ≡ f k)
    → ((k : ℕ) → k < length l → f' (n + k) ≡ get_or l k x)
    → spread f' 0 (n + length l) ≡ spread f 0 n ++ l
spread_added f f' n l x h g =
    spread_more f' 0 n (length l)
    ∙ ap₂ ◌++◌ (spread_same f' f 0 n (λ i p q. h i (omega arith)))
    (rw (zero-add n) (spread_is f' n l x g))

-- ---- lists end to end, and more of them after these

start_next : (ends : ℕ → ℕ) (k : ℕ) → start_of ends (suc k) ≡ ends k
unfolding start_of
start_next ends k = refl

flat_rises : {A B : Type 0} (g : A → List B) (l : List A) (k : ℕ) → length (flat_map g (take k l)) ≤ length (flat_map g (take (suc k) l))
unfolding flat_map
flat_rises g l zero = omega arith
flat_rises g [] (suc k) = omega arith
flat_rises g (a ∷ l) (suc k) = simp length-append (omega (arith, flat_rises g l k))

module _ {A B : Type 0} (g : A → List B) (l : List A) where
  flat_split : (k : ℕ) → flat_map g l ≡ flat_map g (take k l) ++ flat_map g (drop k l)
  flat_split k = ap (flat_map g) (sym (take-append-drop k l)) ∙ flat_map_append g (take k l) (drop k l)

  module _ (x : A) (k : ℕ) (h : k < length l) where
    flat_rest : flat_map g (drop k l) ≡ g (get_or l k x) ++ flat_map g (drop (suc k) l)
    unfolding flat_map
    flat_rest = rw (drop-cons l k x h)

    -- row k ends where it begins and by its own length on
    pub flat_end : length (flat_map g (take (suc k) l)) ≡ length (flat_map g (take k l)) + length (g (get_or l k x))
    unfolding flat_map
    flat_end = rw (take-suc l k x h, flat_map_append g (take k l) (get_or l k x ∷ []), length-append, length-append) (omega arith)

    -- its elements
    flat_at : (d : B) (j : ℕ) → j < length (g (get_or l k x)) → get_or (flat_map g l) (length (flat_map g (take k l)) + j) d ≡ get_or (g (get_or l k x)) j d
    flat_at d j p =
        rw (flat_split k) (get_or-append-add (flat_map g (take k l)) (flat_map g (drop k l)) j d
        ∙ rw flat_rest (get_or-append (g (get_or l k x)) (flat_map g (drop (suc k) l)) d j p))

    flat_fits : length (flat_map g (take k l)) + length (g (get_or l k x)) ≤ length (flat_map g l)
    flat_fits = rw (flat_split k, flat_rest, length-append, length-append) (omega arith)

-- n lists end at c, and each list g x of the x in l comes after them
pub record Grown {A B : Type 0} (g : A → List B) (l : List A) (n c : ℕ) (ends ends' : ℕ → ℕ) (f f' : ℕ → B) : Type 0 where
  pub start : start_of ends n ≡ c
  pub rising : Rising n ends
  pub ends_kept : (k : ℕ) → k < n → ends' k ≡ ends k
  pub ends_new : (k : ℕ) → k < length l → ends' (n + k) ≡ c + length (flat_map g (take (suc k) l))
  pub kept : (i : ℕ) → i < c → f' i ≡ f i
  pub new : (d : B) (j : ℕ) → j < length (flat_map g l) → f' (c + j) ≡ get_or (flat_map g l) j d

module _ {A B : Type 0} {g : A → List B} {l : List A} {n c : ℕ} {ends ends' : ℕ → ℕ} {f f' : ℕ → B} (t : Grown g l n c ends ends' f f') where
  grown_start_kept : (k : ℕ) → k ≤ n → start_of ends' k ≡ start_of ends k
  unfolding start_of
  grown_start_kept zero h = refl
  grown_start_kept (suc k) h = t.ends_kept k h

  -- where each begins
  pub grown_start : (k : ℕ) → k ≤ length l → start_of ends' (n + k) ≡ c + length (flat_map g (take k l))
  unfolding flat_map
  grown_start zero h = rw (add-zero n, add-zero c) (grown_start_kept n (omega arith) ∙ t.start)
  grown_start (suc k) h = let z : n + suc k ≡ suc (n + k) = omega arith in rw z (start_next ends' (n + k) ∙ t.ends_new k h)

  -- where they all end
  pub grown_end : start_of ends' (n + length l) ≡ c + length (flat_map g l)
  grown_end = grown_start (length l) (omega arith) ∙ rw (take-length l)

  pub grown_rising : Rising (n + length l) ends'
  grown_rising = before_or_added (λ k. start_of ends' k ≤ ends' k) n (length l)
      (λ k h. omega (arith, grown_start_kept k (omega arith), t.ends_kept k h, t.rising k h))
      (λ k h. omega (arith, grown_start k (omega arith), t.ends_new k h, flat_rises g l k))

  -- the lists before,
  pub grown_kept : (k : ℕ) → k < n → between f' ends' k ≡ between f ends k
  grown_kept k h =
      rw (grown_start_kept k (omega arith), t.ends_kept k h)
      (spread_same f' f (start_of ends k) (ends k - start_of ends k)
      (λ i p q. t.kept i (omega (arith, t.start, start_next ends k, starts_rise ends n (suc k) n t.rising h (omega arith)))))

  -- and the lists added
  pub grown_new : (x : A) (k : ℕ) → k < length l → between f' ends' (n + k) ≡ g (get_or l k x)
  grown_new x k h =
      let a = g (get_or l k x) in
      let o = length (flat_map g (take k l)) in
      let m : ends' (n + k) - (c + o) ≡ length a = omega (arith, t.ends_new k h, flat_end g l x k h) in
      rw (grown_start k (omega arith), m)
      (spread_is f' (c + o) a (f' 0)
      (λ i p. let e : c + o + i ≡ c + (o + i) = omega arith in
      rw e (t.new (f' 0) (o + i) (omega (arith, flat_fits g l x k h)) ∙ flat_at g l x k h (f' 0) i p)))

-- ---- a step's row

comb_back : (c : Comb) → comb_of (code_of c) ≡ c
comb_back child = refl
comb_back descendant = refl

tag_back : (t : Option ℕ) → tag_of (is_set t) (tag_number t) ≡ t
tag_back none = refl
tag_back (some n) = refl

after : (a b : List ℕ) (i n : ℕ) → length a ≡ n → get_or (a ++ b) (n + i) 0 ≡ get_or b i 0
after a b i n e = rw (← e) (get_or-append-add a b i 0)

id_word : (ids rest : List ℕ) (i : ℕ) → length ids ≤ 8 → i < length ids → get_or (id_words ids ++ rest) i 0 ≡ get_or ids i 0
id_word ids rest i few h =
    get_or-append (id_words ids) rest 0 i (omega (arith, length_ids ids))
    ∙ get_or-take 8 (ids ++ replicate 8 0) i 0 (omega arith)
    ∙ get_or-append ids (replicate 8 0) 0 i h

-- the words of a step's row past its counts
module _ (p : Part Tags) where
  past_counts : (i : ℕ) → get_or (step_words p) (6 + i) 0 ≡ get_or (id_words p.step.classes ++ (id_words p.step.pseudos ++ code_of p.comb ∷ [])) i 0
  unfolding step_words
  past_counts i = after (take 6 (step_words p)) (id_words p.step.classes ++ (id_words p.step.pseudos ++ code_of p.comb ∷ [])) i 6 refl

  past_classes : (i : ℕ) → get_or (step_words p) (14 + i) 0 ≡ get_or (id_words p.step.pseudos ++ code_of p.comb ∷ []) i 0
  past_classes i =
      let z : 14 + i ≡ 6 + (8 + i) = omega arith in
      rw z (past_counts (8 + i) ∙ after (id_words p.step.classes) (id_words p.step.pseudos ++ code_of p.comb ∷ []) i 8 (length_ids p.step.classes))

  pub comb_word : get_or (step_words p) 22 0 ≡ code_of p.comb
  comb_word = past_classes 8 ∙ after (id_words p.step.pseudos) (code_of p.comb ∷ []) 0 8 (length_ids p.step.pseudos)

-- ids are read back from where they stand
ids_back : (w : List ℕ) (at : ℕ) (ids : List ℕ) → at + length ids ≤ length w → ((i : ℕ) → i < length ids → get_or w (at + i) 0 ≡ get_or ids i 0) → words_from w at (length ids) ≡ ids
ids_back w at ids r h = part_spread w 0 at (length ids) r ∙ spread_is (λ i. get_or w i 0) at ids 0 h

-- words from `at` on that are those of a step
pub row_back : (w : List ℕ) (at : ℕ) (p : Part Tags) → at + 23 ≤ length w
    → (length p.step.classes ≤ 8) × (length p.step.pseudos ≤ 8)
    → ((c : ℕ) → c < 23 → get_or w (at + c) 0 ≡ get_or (step_words p) c 0)
    → row_at 8 w at ≡ p.step
unfolding row_at
row_back w at p room few is =
    let t = p.step in
    let k : _ = first_words_lem p in
    rw (
      rw (add-zero at) at (is 0 (omega arith)),
      is 1 (omega arith),
      is 2 (omega arith),
      is 3 (omega arith),
      is 4 (omega arith),
      is 5 (omega arith),
      k.0,
      k.1,
      k.2,
      k.3,
      ids_back w (at + 6) t.classes (omega arith)
          (λ i h. let z : at + 6 + i ≡ at + (6 + i) = omega arith in rw z (is (6 + i) (omega arith) ∙ past_counts p i ∙ id_word t.classes _ i few.0 h)),
      ids_back w (at + 14) t.pseudos (omega arith)
          (λ i h. let z : at + 14 + i ≡ at + (14 + i) = omega arith in rw z (is (14 + i) (omega arith) ∙ past_classes p i ∙ id_word t.pseudos _ i few.1 h)),
    )
  where
    first_words_lem : (p : Part Tags) → (tag_of (get_or (step_words p) 0 0) (get_or (step_words p) 1 0) ≡ p.step.type)
        × (tag_of (get_or (step_words p) 2 0) (get_or (step_words p) 3 0) ≡ p.step.part)
        × (get_or (step_words p) 4 0 ≡ length p.step.classes) × (get_or (step_words p) 5 0 ≡ length p.step.pseudos)
    first_words_lem p = unfold step_words in (tag_back p.step.type, tag_back p.step.part, refl, refl)

-- ---- rows of rules and of styles

rules_drop : (s e : ℕ) (rules : List Rule) (k : ℕ)
    → drop (5 * k) (rule_words s e rules) ≡ rule_words (s + length (steps_of (take k rules))) (e + length (rule_entries (take k rules))) (drop k rules)
unfolding rule_words flat_map
rules_drop s e rules zero = rw (add-zero s, add-zero e)
rules_drop s e [] (suc k) = drop-nil (5 * suc k)
rules_drop s e (r ∷ l) (suc k) =
    let z : 5 * suc k ≡ suc (suc (suc (suc (suc (5 * k))))) = omega arith in
    rw (
      z,
      length-append r.selector (steps_of (take k l)),
      length-append r.entries (rule_entries (take k l)),
      ← (add_assoc s (length r.selector) (length (steps_of (take k l)))),
      ← (add_assoc e (length r.entries) (length (rule_entries (take k l)))),
    )
    (rules_drop (s + length r.selector) (e + length r.entries) l k)

-- the words of row k
pub rule_row : (s e : ℕ) (rules : List Rule) (x : Rule) (k c : ℕ) → k < length rules
    → get_or (rule_words s e rules) (5 * k + c) 0 ≡ get_or (rule_words (s + length (steps_of (take k rules))) (e + length (rule_entries (take k rules))) (get_or rules k x ∷ drop (suc k) rules)) c 0
rule_row s e rules x k c h = sym (get_or-drop (5 * k) (rule_words s e rules) c 0) ∙ rw (rules_drop s e rules k, drop-cons rules k x h)

styles_drop : (e : ℕ) (styles : List Style) (k : ℕ) → drop (3 * k) (style_words e styles) ≡ style_words (e + length (style_entries (take k styles))) (drop k styles)
unfolding style_words flat_map
styles_drop e styles zero = rw (add-zero e)
styles_drop e [] (suc k) = drop-nil (3 * suc k)
styles_drop e (d ∷ l) (suc k) =
    let z : 3 * suc k ≡ suc (suc (suc (3 * k))) = omega arith in
    rw (z, length-append, ← add_assoc) (styles_drop (e + length d.entries) l k)

pub style_row : (e : ℕ) (styles : List Style) (x : Style) (k c : ℕ) → k < length styles
    → get_or (style_words e styles) (3 * k + c) 0 ≡ get_or (style_words (e + length (style_entries (take k styles))) (get_or styles k x ∷ drop (suc k) styles)) c 0
style_row e styles x k c h = sym (get_or-drop (3 * k) (style_words e styles) c 0) ∙ rw (styles_drop e styles k, drop-cons styles k x h)

-- ---- a sheet before and after

pub no_part : Part Tags
no_part = record { comb = child; step = record { type = none; part = none; classes = []; pseudos = [] } }

pub no_style : Style
no_style = record { origin = 0; source = 0; entries = [] }

pub no_rule : Rule
no_rule = record { origin = 0; source = 0; order = 0; selector = []; entries = [] }

-- The lists of the rows stand end to end up to the counts, and no step has more ids than its row has room for
pub record Ended (w : List ℕ) : Type 0 where
  pub steps_end : start_of (rule_step_ends w) (Layout.rules_in w) ≡ Layout.steps_in w
  pub entries_end : start_of (rule_entry_ends w) (Layout.rules_in w) ≡ Layout.entries_in w
  pub style_entries_end : start_of (style_entry_ends w) (Layout.styles_in w) ≡ Layout.style_entries_in w
  pub steps_rise : Rising (Layout.rules_in w) (rule_step_ends w)
  pub entries_rise : Rising (Layout.rules_in w) (rule_entry_ends w)
  pub style_entries_rise : Rising (Layout.styles_in w) (style_entry_ends w)
  pub classes_few : (s : ℕ) → s < Layout.steps_in w → get_or w (Layout.step_place s + 4) 0 ≤ 8
  pub pseudos_few : (s : ℕ) → s < Layout.steps_in w → get_or w (Layout.step_place s + 5) 0 ≤ 8

-- no added step has more than 8 classes or 8 pseudos
abbrev pub Few : List Rule → Type 0
Few rules = (p : Part Tags) → p ∈ steps_of rules → (length p.step.classes ≤ 8) × (length p.step.pseudos ≤ 8)

pub get_or_in : {A : Type 0} (l : List A) (j : ℕ) (d : A) → j < length l → get_or l j d ∈ l
get_or_in [] j d h = absurd (omega arith)
get_or_in (a ∷ l) zero d h = Memᴰ.head refl
get_or_in (a ∷ l) (suc j) d h = Memᴰ.tail (get_or_in l j d (le_of_suc-le-suc h))

words_kept : (w w' : List ℕ) (at n : ℕ) → length w' ≡ length w → at + n ≤ length w → ((i : ℕ) → at ≤ i → i < at + n → get_or w' i 0 ≡ get_or w i 0) → words_from w' at n ≡ words_from w at n
words_kept w w' at n e r h =
    part_spread w' 0 at n (omega arith) ∙ spread_same (λ i. get_or w' i 0) (λ i. get_or w i 0) at n h ∙ sym (part_spread w 0 at n r)

module _ {w : List ℕ} {styles : List Style} {rules : List Rule} (next : ℕ) (z : Sizes w styles rules) where
  -- words of rows
  pub step_word_kept : (s c : ℕ) → s < Layout.steps_in w → c < 23 → get_or (lay styles rules next w) (Layout.step_place s + c) 0 ≡ get_or w (Layout.step_place s + c) 0
  step_word_kept s c h g = step_kept next z (Layout.step_place s + c) (omega arith) (omega arith)

  pub step_word_new : (d : Part Tags) (j c : ℕ) → j < length (steps_of rules) → c < 23
      → get_or (lay styles rules next w) (Layout.step_place (Layout.steps_in w + j) + c) 0 ≡ get_or (step_words (get_or (steps_of rules) j d)) c 0
  step_word_new d j c h g =
      step_new next z (Layout.step_place (Layout.steps_in w + j) + c) (23 * j + c) (omega arith) (omega arith)
      ∙ rw (steps_flat rules) (get_or_rows step_words 23 (steps_of rules) d 0 j c (λ p m. length_step p) h g)

  pub rule_word_kept : (c r : ℕ) → 8 ≤ c → c < 13 → r < Layout.rules_in w → ends_in (lay styles rules next w) c 5 r ≡ ends_in w c 5 r
  unfolding ends_in
  rule_word_kept c r p q h = rule_kept next z (c + 5 * r) (omega arith) (omega arith)

  rule_word_new : (x : Rule) (k c : ℕ) → c < 5 → k < length rules
      → ends_in (lay styles rules next w) (8 + c) 5 (Layout.rules_in w + k)
      ≡ get_or (rule_words (Layout.steps_in w + length (steps_of (take k rules))) (Layout.entries_in w + length (rule_entries (take k rules))) (get_or rules k x ∷ drop (suc k) rules)) c 0
  unfolding ends_in
  rule_word_new x k c p h =
      rule_new next z (8 + c + 5 * (Layout.rules_in w + k)) (5 * k + c) (omega arith) (omega arith)
      ∙ rule_row (Layout.steps_in w) (Layout.entries_in w) rules x k c h

  pub style_word_kept : (c d : ℕ) → 60680 ≤ c → c < 60683 → d < Layout.styles_in w → ends_in (lay styles rules next w) c 3 d ≡ ends_in w c 3 d
  unfolding ends_in
  style_word_kept c d p q h = style_kept next z (c + 3 * d) (omega arith) (omega arith)

  style_word_new : (x : Style) (k c : ℕ) → c < 3 → k < length styles
      → ends_in (lay styles rules next w) (60680 + c) 3 (Layout.styles_in w + k)
      ≡ get_or (style_words (Layout.style_entries_in w + length (style_entries (take k styles))) (get_or styles k x ∷ drop (suc k) styles)) c 0
  unfolding ends_in
  style_word_new x k c p h =
      style_new next z (60680 + c + 3 * (Layout.styles_in w + k)) (3 * k + c) (omega arith) (omega arith)
      ∙ style_row (Layout.style_entries_in w) styles x k c h

  -- steps
  pub part_new : Few rules → (d : Part Tags) (j : ℕ) → j < length (steps_of rules) → part_at (lay styles rules next w) (Layout.steps_in w + j) ≡ get_or (steps_of rules) j d
  unfolding part_at ends_in
  part_new few d j h =
      let p = get_or (steps_of rules) j d in
      let place = Layout.step_place (Layout.steps_in w + j) in
      let n = length_lay styles rules next w in
      let c : 1310 + 23 * (Layout.steps_in w + j) ≡ place + 22 = omega arith in
      rw (
        c,
        step_word_new d j 22 h (omega arith),
        comb_word p,
        comb_back p.comb,
        row_back (lay styles rules next w) place p (omega arith) (few p (get_or_in (steps_of rules) j d h)) (λ c g. step_word_new d j c h g),
      )

  module _ (t : Ended w) where
    pub row_kept : (s : ℕ) → s < Layout.steps_in w → row_at 8 (lay styles rules next w) (Layout.step_place s) ≡ row_at 8 w (Layout.step_place s)
    unfolding row_at
    row_kept s h =
        let n = length_lay styles rules next w in
        let place = Layout.step_place s in
        let a = t.classes_few s h in
        let b = t.pseudos_few s h in
        rw (
          step_kept next z place (omega arith) (omega arith),
          step_word_kept s 1 h (omega arith),
          step_word_kept s 2 h (omega arith),
          step_word_kept s 3 h (omega arith),
          step_word_kept s 4 h (omega arith),
          step_word_kept s 5 h (omega arith),
          words_kept w (lay styles rules next w) (place + 6) (get_or w (place + 4) 0) n (omega arith) (λ i p q. step_kept next z i (omega arith) (omega arith)),
          words_kept w (lay styles rules next w) (place + 14) (get_or w (place + 5) 0) n (omega arith) (λ i p q. step_kept next z i (omega arith) (omega arith)),
        )

    pub part_kept : (s : ℕ) → s < Layout.steps_in w → part_at (lay styles rules next w) s ≡ part_at w s
    unfolding part_at ends_in
    part_kept s h = rw (row_kept s h, step_kept next z (1310 + 23 * s) (omega arith) (omega arith))

    -- ---- the three kinds of lists

    pub steps_grown : Few rules
        → Grown (λ r. r.selector) rules (Layout.rules_in w) (Layout.steps_in w) (rule_step_ends w) (rule_step_ends (lay styles rules next w)) (part_at w) (part_at (lay styles rules next w))
    steps_grown few = record {
      start = t.steps_end;
      rising = t.steps_rise;
      ends_kept = λ k h. rule_word_kept 11 k (omega arith) (omega arith) h;
      ends_new = λ k h. unfold rule_words in (rule_word_new no_rule k 3 (omega arith) h ∙ omega (arith, flat_end (λ r. r.selector) rules no_rule k h));
      kept = part_kept;
      new = part_new few;
    }

    pub entries_grown : Grown (λ r. r.entries) rules (Layout.rules_in w) (Layout.entries_in w) (rule_entry_ends w) (rule_entry_ends (lay styles rules next w))
        (entry_at w Layout.ENTRY Layout.ENTRY-ROOM) (entry_at (lay styles rules next w) Layout.ENTRY Layout.ENTRY-ROOM)
    entries_grown = record {
      start = t.entries_end;
      rising = t.entries_rise;
      ends_kept = λ k h. rule_word_kept 12 k (omega arith) (omega arith) h;
      ends_new = λ k h. unfold rule_words in (rule_word_new no_rule k 4 (omega arith) h ∙ omega (arith, flat_end (λ r. r.entries) rules no_rule k h));
      kept = entry_kept next z;
      new = entry_new next z;
    }

    pub style_entries_grown : Grown (λ d. d.entries) styles (Layout.styles_in w) (Layout.style_entries_in w) (style_entry_ends w) (style_entry_ends (lay styles rules next w))
        (entry_at w Layout.STYLE-ENTRY Layout.STYLE-ENTRY-ROOM) (entry_at (lay styles rules next w) Layout.STYLE-ENTRY Layout.STYLE-ENTRY-ROOM)
    style_entries_grown = record {
      start = t.style_entries_end;
      rising = t.style_entries_rise;
      ends_kept = λ k h. style_word_kept 60682 k (omega arith) (omega arith) h;
      ends_new = λ k h. unfold style_words in (style_word_new no_style k 2 (omega arith) h ∙ omega (arith, flat_end (λ d. d.entries) styles no_style k h));
      kept = style_entry_kept next z;
      new = style_entry_new next z;
    }

    -- ---- styles and rules

    pub style_at_kept : (d : ℕ) → d < Layout.styles_in w → style_at (lay styles rules next w) d ≡ style_at w d
    unfolding style_at
    style_at_kept d h = rw (
      style_word_kept 60680 d (omega arith) (omega arith) h,
      style_word_kept 60681 d (omega arith) (omega arith) h,
      grown_kept style_entries_grown d h,
    )

    pub style_at_new : (x : Style) (k : ℕ) → k < length styles → style_at (lay styles rules next w) (Layout.styles_in w + k) ≡ get_or styles k x
    unfolding style_at style_words
    style_at_new x k h = rw (style_word_new x k 0 (omega arith) h, style_word_new x k 1 (omega arith) h, grown_new style_entries_grown x k h)

    module _ (few : Few rules) where
      pub rule_at_kept : (r : ℕ) → r < Layout.rules_in w → rule_at (lay styles rules next w) r ≡ rule_at w r
      unfolding rule_at
      rule_at_kept r h = rw (
        rule_word_kept 8 r (omega arith) (omega arith) h,
        rule_word_kept 9 r (omega arith) (omega arith) h,
        rule_word_kept 10 r (omega arith) (omega arith) h,
        grown_kept (steps_grown few) r h,
        grown_kept entries_grown r h,
      )

      pub rule_at_new : (x : Rule) (k : ℕ) → k < length rules → rule_at (lay styles rules next w) (Layout.rules_in w + k) ≡ get_or rules k x
      unfolding rule_at rule_words
      rule_at_new x k h = rw (
        rule_word_new x k 0 (omega arith) h,
        rule_word_new x k 1 (omega arith) h,
        rule_word_new x k 2 (omega arith) h,
        grown_new (steps_grown few) x k h,
        grown_new entries_grown x k h,
      )

      -- ---- the whole

      pub read_lay : sheet_of (lay styles rules next w) ≡ record { next = next; styles = (sheet_of w).styles ++ styles; rules = (sheet_of w).rules ++ rules }
      unfolding sheet_of
      read_lay = rw (
        next_after_lem next z,
        styles_after next z,
        rules_after next z,
        spread_added (style_at w) (style_at (lay styles rules next w)) (Layout.styles_in w) styles no_style style_at_kept (style_at_new no_style),
        spread_added (rule_at w) (rule_at (lay styles rules next w)) (Layout.rules_in w) rules no_rule rule_at_kept (rule_at_new no_rule),
      )

      counts_few : (s : ℕ) → s < Layout.steps_in w + length (steps_of rules)
          → (get_or (lay styles rules next w) (Layout.step_place s + 4) 0 ≤ 8) × (get_or (lay styles rules next w) (Layout.step_place s + 5) 0 ≤ 8)
      unfolding step_words
      counts_few = before_or_added
          (λ s. (get_or (lay styles rules next w) (Layout.step_place s + 4) 0 ≤ 8) × (get_or (lay styles rules next w) (Layout.step_place s + 5) 0 ≤ 8))
          (Layout.steps_in w) (length (steps_of rules))
          (λ s h. rw (step_word_kept s 4 h (omega arith), step_word_kept s 5 h (omega arith)) (t.classes_few s h, t.pseudos_few s h))
          (λ j h. rw (step_word_new no_part j 4 h (omega arith), step_word_new no_part j 5 h (omega arith)) (few (get_or (steps_of rules) j no_part) (get_or_in (steps_of rules) j no_part h)))

      -- and the lists stand end to end again
      pub ended_lay : Ended (lay styles rules next w)
      ended_lay = record {
        steps_end = rw (rules_after next z, steps_after next z) (grown_end (steps_grown few));
        entries_end = rw (rules_after next z, entries_after next z) (grown_end entries_grown);
        style_entries_end = rw (styles_after next z, style_entries_after next z) (grown_end style_entries_grown);
        steps_rise = rw (rules_after next z) (grown_rising (steps_grown few));
        entries_rise = rw (rules_after next z) (grown_rising entries_grown);
        style_entries_rise = rw (styles_after next z) (grown_rising style_entries_grown);
        classes_few = λ s h. (counts_few s (rw (steps_after next z) at h)).0;
        pseudos_few = λ s h. (counts_few s (rw (steps_after next z) at h)).1;
      }
