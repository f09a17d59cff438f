-- Laws of the rules of a group: one more rule; their rows, steps, entries and ids, by the counts. Assumes nothing.
use mathlib.Core.Path.{◌≡◌, refl, sym, ◌∙◌}
use mathlib.Core.Bool.{true}
use mathlib.Core.List.{List, [], ◌∷◌, ◌++◌, flat_map}
use Prim.Native.Nat.{ℕ, zero, suc, ◌+◌, ◌*◌, ◌≤◌, ◌<◌}
use native.Mathlib.Nat.{zero-add, add-zero, mul-suc}
use native.Mathlib.Numerals.{add-one}
use native.Mathlib.Omega.{arith}
use lib.ListN.{length, get_or, drop, length-append, length-drop}
use lib.Seq.{get_or-drop}
use Rattle.theory.specs.Lists.{spread, sum_below, total}
use Rattle.theory.specs.Paths.{Selector}
use Rattle.theory.proofs.Lists.{flat_map_append, sort_length}
use Rattle.theory.proofs.Spreads.{length_spread, spread_same, spread_more, spread_snoc, spread_shift, sum_bound, flat_map_one, length_rows}
use Rattle.lent.specs.Pool.{start_of}
use Rattle.lent.proofs.All.{all_at}
use Rattle.selector.specs.Tags.{Tags}
use Rattle.selector.specs.Rows.{row_at, step_at, comb_of, comb_before, selector_of}
use Rattle.selector.specs.Checks.{row_fits}
use Rattle.selector.specs.Weighing.{counts_of, counts_in}
use Rattle.selector.proofs.WeighLaws.{classes_few, pseudos_few, counts_next}
use Rattle.style.specs.Entries.{Entry, entries_of}
use Rattle.sheet.specs.Sheets.{Rule}
use Rattle.sheet.specs.Laying.{step_words, steps_words, rule_words, rule_entries, steps_of, ids_held}
use Rattle.laid.proofs.Frame
use Rattle.laid.proofs.Held.{ids_append}
use Rattle.given.specs.Given.{Group, given, step_count, entry_count, steps_from, combinators_from, selector_given, entries_given, rule_given, rules_given}
use Rattle.given.specs.Leaves.{code_before, part_of, SelectorFits, SelectorsFit, step_total, entry_total, id_total}
use Rattle.given.proofs.Counting.{ids_counted}

-- ---- rows of steps

pub length_steps : (sel : Selector Tags) → length (flat_map step_words sel) ≡ 23 * length sel
length_steps sel = length_rows step_words 23 sel (λ p m. Frame.length_step p)

-- ---- one more step

pub length_selector : (steps combinators : List ℕ) (n : ℕ) → length (selector_of steps combinators n) ≡ n
unfolding selector_of
length_selector steps combinators n = length_spread _ 0 n

comb_code : (combinators : List ℕ) (j : ℕ) → comb_before combinators j ≡ comb_of (code_before combinators j)
comb_code combinators zero = refl
comb_code combinators (suc j) = refl

pub selector_next : (steps combinators : List ℕ) (j : ℕ)
    → selector_of steps combinators (j + 1) ≡ selector_of steps combinators j ++ part_of steps (22 * j) (code_before combinators j) ∷ []
unfolding selector_of
selector_next steps combinators j = spread_snoc _ 0 j ∙ rw (zero-add j, comb_code combinators j)

-- ---- one more rule

module _ (origin source : ℕ) (g : Group) where
  pub rules_next : (k : ℕ) → rules_given origin source g (k + 1) ≡ rules_given origin source g k ++ rule_given origin source g k ∷ []
  unfolding rules_given
  rules_next k = spread_snoc (rule_given origin source g) 0 k ∙ rw (zero-add k)

  pub rules_none : rules_given origin source g 0 ≡ []
  unfolding rules_given
  rules_none = refl

  pub length_rules : (n : ℕ) → length (rules_given origin source g n) ≡ n
  unfolding rules_given
  length_rules n = length_spread (rule_given origin source g) 0 n

  module _ {A : Type 0} (f : Rule → List A) where
    pub flat_none : flat_map f (rules_given origin source g 0) ≡ []
    unfolding rules_given flat_map
    flat_none = refl

    pub flat_next : (k : ℕ) → flat_map f (rules_given origin source g (k + 1)) ≡ flat_map f (rules_given origin source g k) ++ f (rule_given origin source g k)
    flat_next k =
        rw (rules_next k, flat_map_append f (rules_given origin source g k) (rule_given origin source g k ∷ []), flat_map_one f (rule_given origin source g k))

    -- a sum of lengths
    flat_length : (count : ℕ → ℕ) → ((k : ℕ) → length (f (rule_given origin source g k)) ≡ count k) → (n : ℕ) → length (flat_map f (rules_given origin source g n)) ≡ sum_below count n
    unfolding sum_below
    flat_length count h zero = rw flat_none
    flat_length count h (suc n) = rw (← add-one n, flat_next n, length-append, flat_length count h n, h n)

  pub length_selector_given : (k : ℕ) → length (rule_given origin source g k).selector ≡ step_count g k
  unfolding rule_given selector_given
  length_selector_given k = length_selector (steps_from g k) (combinators_from g k) (step_count g k)

  pub length_entries_given : (k : ℕ) → length (rule_given origin source g k).entries ≡ entry_count g k
  unfolding rule_given entries_given entries_of
  length_entries_given k = length_spread _ 0 (entry_count g k)

  pub step_total_lem : (n : ℕ) → length (steps_of (rules_given origin source g n)) ≡ step_total g n
  step_total_lem n = flat_length (λ r. r.selector) (step_count g) length_selector_given n

  pub entry_total_lem : (n : ℕ) → length (rule_entries (rules_given origin source g n)) ≡ entry_total g n
  entry_total_lem n = flat_length (λ r. r.entries) (entry_count g) length_entries_given n

  -- ---- the rows of their steps

  pub steps_next : (k : ℕ)
      → steps_words (rules_given origin source g (k + 1)) ≡ steps_words (rules_given origin source g k) ++ flat_map step_words (selector_of (steps_from g k) (combinators_from g k) (step_count g k))
  unfolding rule_given selector_given
  steps_next k = flat_next (λ r. flat_map step_words r.selector) k

  pub steps_length : (n : ℕ) → length (steps_words (rules_given origin source g n)) ≡ 23 * step_total g n
  unfolding sum_below
  steps_length zero = rw (flat_none (λ r. flat_map step_words r.selector))
  steps_length (suc n) =
      let s = selector_of (steps_from g n) (combinators_from g n) (step_count g n) in
      rw (← add-one n, steps_next n, length-append) (omega (arith, steps_length n, length_steps s, length_selector (steps_from g n) (combinators_from g n) (step_count g n)))

-- ---- their rows

rules_append : (s e : ℕ) (l m : List Rule) → rule_words s e (l ++ m) ≡ rule_words s e l ++ rule_words (s + length (steps_of l)) (e + length (rule_entries l)) m
unfolding rule_words flat_map
rules_append s e [] m = simp add-zero
rules_append s e (r ∷ l) m =
    let s' = s + length r.selector in
    let e' = e + length r.entries in
    let a : s + (length r.selector + length (steps_of l)) ≡ s' + length (steps_of l) = omega arith in
    let b : e + (length r.entries + length (rule_entries l)) ≡ e' + length (rule_entries l) = omega arith in
    rw (length-append r.selector (steps_of l), length-append r.entries (rule_entries l), a, b, rules_append s' e' l m)

module _ (s e origin source : ℕ) (g : Group) where
  one_row : (k a b : ℕ) → rule_words a b (rule_given origin source g k ∷ []) ≡ origin ∷ source ∷ k ∷ (a + step_count g k) ∷ (b + entry_count g k) ∷ []
  unfolding rule_words
  one_row k a b = rw (length_selector_given origin source g k, length_entries_given origin source g k) (unfold rule_given in refl)

  pub rows_next : (k : ℕ)
      → rule_words s e (rules_given origin source g (k + 1))
      ≡ rule_words s e (rules_given origin source g k) ++ origin ∷ source ∷ k ∷ (s + step_total g k + step_count g k) ∷ (e + entry_total g k + entry_count g k) ∷ []
  rows_next k = rw (rules_next origin source g k, rules_append s e (rules_given origin source g k) (rule_given origin source g k ∷ []), step_total_lem origin source g k, entry_total_lem origin source g k, one_row k)

  pub rows_none : rule_words s e (rules_given origin source g 0) ≡ []
  unfolding rule_words rules_given
  rows_none = refl

  pub rows_length : (k : ℕ) → length (rule_words s e (rules_given origin source g k)) ≡ 5 * k
  rows_length k = Frame.length_rules s e (rules_given origin source g k) ∙ rw (length_rules origin source g k)

-- ---- what each depends on

-- rows of steps: the counts, the steps and the combinators
pub steps_same : (o u o' u' : ℕ) (rules steps combinators p k m p' k' m' : List ℕ) (n : ℕ)
    → steps_words (rules_given o u (given rules steps combinators p k m) n) ≡ steps_words (rules_given o' u' (given rules steps combinators p' k' m') n)
steps_same o u o' u' rules steps combinators p k m p' k' m' zero = rw (flat_none o u (given rules steps combinators p k m) (λ r. flat_map step_words r.selector), flat_none o' u' (given rules steps combinators p' k' m') (λ r. flat_map step_words r.selector))
steps_same o u o' u' rules steps combinators p k m p' k' m' (suc n) =
    rw (← add-one n, steps_next o u (given rules steps combinators p k m) n, steps_next o' u' (given rules steps combinators p' k' m') n, steps_same o u o' u' rules steps combinators p k m p' k' m' n)

-- rows of rules: the counts
pub rows_same : (s e o u : ℕ) (rules a b c d f a' b' c' d' f' : List ℕ) (n : ℕ)
    → rule_words s e (rules_given o u (given rules a b c d f) n) ≡ rule_words s e (rules_given o u (given rules a' b' c' d' f') n)
rows_same s e o u rules a b c d f a' b' c' d' f' zero = rw (rows_none s e o u (given rules a b c d f), rows_none s e o u (given rules a' b' c' d' f'))
rows_same s e o u rules a b c d f a' b' c' d' f' (suc n) =
    rw (← add-one n, rows_next s e o u (given rules a b c d f) n, rows_next s e o u (given rules a' b' c' d' f') n, rows_same s e o u rules a b c d f a' b' c' d' f' n)

-- ---- their entries stand end to end

module _ (properties kinds numbers : List ℕ) where
  abbrev entry : ℕ → Entry
  entry k = record { property = get_or properties k 0; kind = get_or kinds k 0; number = get_or numbers k 0 }

  entries_from : (a m : ℕ) → entries_of (drop a properties) (drop a kinds) (drop a numbers) m ≡ spread entry a m
  unfolding entries_of
  entries_from a m =
      spread_same _ (λ k. entry (a + k)) 0 m (λ i h g. rw (get_or-drop a properties i 0, get_or-drop a kinds i 0, get_or-drop a numbers i 0))
      ∙ spread_shift entry a 0 m
      ∙ rw (add-zero a)

  entries_more : (a m : ℕ) → entries_of properties kinds numbers a ++ entries_of (drop a properties) (drop a kinds) (drop a numbers) m ≡ entries_of properties kinds numbers (a + m)
  entries_more a m = rw (entries_from a m) (unfold entries_of in (sym (spread_more entry 0 a m ∙ rw (zero-add a))))

pub entries_all : (o u : ℕ) (g : Group) (n : ℕ) → rule_entries (rules_given o u g n) ≡ entries_of g.properties g.kinds g.numbers (entry_total g n)
unfolding sum_below
entries_all o u g zero = rw (flat_none o u g (λ r. r.entries)) (unfold entries_of in refl)
entries_all o u g (suc n) =
    rw (← add-one n, flat_next o u g (λ r. r.entries) n, entries_all o u g n) (unfold rule_given entries_given in (entries_more g.properties g.kinds g.numbers (entry_total g n) (entry_count g n)))

-- ---- their ids

pub id_total_lem : (o u : ℕ) (g : Group) (n : ℕ) → ids_held (steps_of (rules_given o u g n)) ≡ id_total g n
unfolding sum_below
id_total_lem o u g zero = rw (flat_none o u g (λ r. r.selector)) (unfold ids_held total in refl)
id_total_lem o u g (suc n) =
    rw (← add-one n, flat_next o u g (λ r. r.selector) n, ids_append, id_total_lem o u g n) (unfold rule_given in refl)

-- at most 8 classes and 8 pseudos a step
module _ (steps : List ℕ) where
  classes_sum : (n : ℕ) → ((j : ℕ) → j < n → row_fits 8 steps (22 * j) ≡ true) → total (λ c. c.classes) (counts_in steps n) ≤ 8 * n
  classes_sum zero h = unfold counts_in total in (omega arith)
  classes_sum (suc n) h =
      let e : total (λ c. c.classes) (counts_in steps (suc n)) ≡ total (λ c. c.classes) (counts_in steps n) + (counts_of (step_at steps n)).classes = rw (← add-one n) (counts_next (λ c. c.classes) steps n) in
      let f : (counts_of (step_at steps n)).classes ≤ 8 = unfold counts_of row_at in (omega (arith, sort_length (row_at 8 steps (22 * n)).classes, classes_few steps (22 * n) (row_at 8 steps (22 * n)).classes (h n (omega arith)) refl)) in
      omega (arith, classes_sum n (λ j l. h j (omega arith)))

  pseudos_sum : (n : ℕ) → ((j : ℕ) → j < n → row_fits 8 steps (22 * j) ≡ true) → total (λ c. c.pseudos) (counts_in steps n) ≤ 8 * n
  pseudos_sum zero h = unfold counts_in total in (omega arith)
  pseudos_sum (suc n) h =
      let e : total (λ c. c.pseudos) (counts_in steps (suc n)) ≡ total (λ c. c.pseudos) (counts_in steps n) + (counts_of (step_at steps n)).pseudos = rw (← add-one n) (counts_next (λ c. c.pseudos) steps n) in
      let f : (counts_of (step_at steps n)).pseudos ≤ 8 = unfold counts_of row_at in (omega (arith, sort_length (row_at 8 steps (22 * n)).pseudos, pseudos_few steps (22 * n) (row_at 8 steps (22 * n)).pseudos (h n (omega arith)) refl)) in
      omega (arith, pseudos_sum n (λ j l. h j (omega arith)))

module _ (g : Group) where
  ids_few : (k : ℕ) → SelectorFits g k → ids_held (selector_given g k) ≤ 128
  unfolding selector_given
  ids_few k f =
      let h : (j : ℕ) → j < step_count g k → row_fits 8 (steps_from g k) (22 * j) ≡ true = λ j l. all_at (λ i. row_fits 8 (steps_from g k) (22 * i)) (step_count g k) j l f.rows in
      omega (arith, ids_counted (steps_from g k) (combinators_from g k) (step_count g k), classes_sum (steps_from g k) (step_count g k) h, pseudos_sum (steps_from g k) (step_count g k) h, f.few)

  pub id_total_few : (n : ℕ) → SelectorsFit g n → id_total g n ≤ 128 * n
  id_total_few n f = sum_bound (λ k. ids_held (selector_given g k)) 128 n (λ k h. ids_few k (f k h))

-- ---- sums

-- lists that begin where the one before ends stand within the whole
pub sum_within : (count : ℕ → ℕ) (l : List ℕ) (n : ℕ) → ((k : ℕ) → k < n → count k ≤ length (drop (sum_below count k) l)) → sum_below count n ≤ length l
unfolding sum_below
sum_within count l zero h = omega arith
sum_within count l (suc n) h = omega (arith, sum_within count l n (λ k g. h k (omega arith)), h n (omega arith), length-drop (sum_below count n) l)

-- ends that rise by at most `size`
pub ends_few : (ends : ℕ → ℕ) (size n : ℕ) → ((k : ℕ) → k < n → ends k ≤ start_of ends k + size) → start_of ends n ≤ size * n
unfolding start_of
ends_few ends size zero h = omega arith
ends_few ends size (suc n) h = omega (arith, h n (omega arith), ends_few ends size n (λ k g. h k (omega arith)), mul-suc size n)
