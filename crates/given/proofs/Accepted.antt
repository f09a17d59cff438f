-- What an accepted push satisfies: each check that did not hold, as a proposition. Assumes nothing.
use mathlib.Core.Path.{◌≡◌, refl}
use mathlib.Core.Bool.{true, false, not}
use mathlib.Core.List.{List, [], ◌∷◌, ◌++◌}
use Prim.Native.Nat.{ℕ, zero, suc, ◌+◌, ◌-◌, ◌*◌, ◌/◌, ◌≤◌, ◌<◌}
use native.Mathlib.Omega.{arith}
use lib.ListN.{length, get_or, take}
use lib.Dec.{ltb}
use borrow.Author.Tests.{ltb-false, eqb-true, not-true, not-false}
use Rattle.theory.specs.Lists.{ascends, at_most, sum_below}
use Rattle.theory.proofs.Spreads.{sum_bound}
use Rattle.theory.proofs.Lists.{or_first, or_second}
use Rattle.lent.specs.All.{all_below}
use Rattle.lent.specs.Refusals.{check, first_of, checks_below}
use Rattle.lent.proofs.All.{all_at}
use Rattle.lent.proofs.Refusals.{Positive, positive_below, first_both, turn_at, first_clear}
use Rattle.selector.specs.Rows.{selector_of}
use Rattle.selector.specs.Checks.{row_fits, selector_over, combinators_off, codes_over}
use Rattle.style.specs.Checks.{entries_over, kinds_over, properties_off}
use Rattle.style.proofs.CheckLaws.{Within, within}
use Rattle.sheet.specs.Layout
use Rattle.sheet.specs.Shape.{sheet_shape}
use Rattle.sheet.specs.Laying.{ids_held}
use Rattle.given.specs.Given.{Group, step_count, combinator_count, entry_count, steps_from, combinators_from, properties_from, kinds_from, numbers_from, selector_given}
use Rattle.given.specs.Pushing.{all_entries_in, front_checks, index_checks, form_checks, style_size_checks, style_push_verdict, rules_over, rule_size_checks, rule_form_checks, one_rule_checks, rule_checks, group_verdict, sums_over, indexes_over, cascade_verdict}
use Rattle.given.specs.Leaves.{code_before, SelectorsFit, EntriesFit, step_total, entry_total, id_total}

-- ---- neither test of two holds

-- ---- every push of a source

module _ (w : List ℕ) where
  pub front_accepted : (origin : ℕ) → first_of (front_checks w origin) ≡ 0 → (sheet_shape w ≡ true) × (origin ≤ 7)
  front_accepted origin e =
      let (a, r) = first_clear 11 (not (sheet_shape w)) _ (omega arith) e in
      (not-false _ a, ltb-false 7 origin (first_clear 6 (ltb 7 origin) [] (omega arith) r).0)

  pub index_accepted : first_of (index_checks w) ≡ 0 → Layout.next_in w ≤ 65535
  index_accepted e = ltb-false 65535 (Layout.next_in w) (first_clear 7 (ltb 65535 (Layout.next_in w)) [] (omega arith) e).0

-- entries whose kinds and property ids are fine
pub record Formed (properties kinds : List ℕ) (n : ℕ) : Type 0 where
  pub kinds_few : at_most 3 (take n kinds) ≡ true
  pub sorted : ascends (take n properties) ≡ true

pub formed : (properties kinds : List ℕ) (n : ℕ) → first_of (form_checks properties kinds n) ≡ 0 → Formed properties kinds n
unfolding kinds_over properties_off
formed properties kinds n e =
    let (a, r) = first_clear 6 (kinds_over kinds n) _ (omega arith) e in
    record { kinds_few = not-false _ a; sorted = not-false _ (first_clear 1 (properties_off properties n) [] (omega arith) r).0 }

-- ---- a style

pub record StyleAccepted (w : List ℕ) (origin : ℕ) (properties kinds numbers : List ℕ) (n : ℕ) : Type 0 where
  pub shape : sheet_shape w ≡ true
  pub origin_fits_lem : origin ≤ 7
  pub styles : Layout.styles_in w + 1 ≤ 64
  pub counted : Within properties kinds numbers n
  pub entries_sum : all_entries_in w + n ≤ 4096
  pub form : Formed properties kinds n
  pub next : Layout.next_in w ≤ 65535

module _ (w properties kinds numbers : List ℕ) (n : ℕ) where
  pub style_sized : first_of (style_size_checks w properties kinds numbers n) ≡ 0 → (Layout.styles_in w + 1 ≤ 64) × Within properties kinds numbers n × (all_entries_in w + n ≤ 4096)
  style_sized e =
      let (a, r) = first_clear 2 (ltb 64 (Layout.styles_in w + 1)) _ (omega arith) e in
      let (b, s) = first_clear 2 (entries_over properties kinds numbers n) _ (omega arith) r in
      let (c, _) = first_clear 2 (ltb 4096 (all_entries_in w + n)) [] (omega arith) s in
      (ltb-false 64 (Layout.styles_in w + 1) a, within properties kinds numbers n _ refl b, ltb-false 4096 (all_entries_in w + n) c)

  pub style_accepted : (origin : ℕ) → style_push_verdict w origin properties kinds numbers n ≡ 0 → StyleAccepted w origin properties kinds numbers n
  unfolding style_push_verdict
  style_accepted origin e =
      let (f, r) = first_both (front_checks w origin) (style_size_checks w properties kinds numbers n ++ (form_checks properties kinds n ++ index_checks w)) refl e in
      let (z, s) = first_both (style_size_checks w properties kinds numbers n) (form_checks properties kinds n ++ index_checks w) refl r in
      let (m, i) = first_both (form_checks properties kinds n) (index_checks w) refl s in
      let (a, b, c) = style_sized z in
      record {
        shape = (front_accepted w origin f).0;
        origin_fits_lem = (front_accepted w origin f).1;
        styles = a;
        counted = b;
        entries_sum = c;
        form = formed properties kinds n m;
        next = index_accepted w i;
      }

-- ---- one rule of n steps, m combinators and l entries, which begin these lists, after so many ids and entries

pub record SelectorSized (steps : List ℕ) (n : ℕ) (combinators : List ℕ) (m : ℕ) : Type 0 where
  pub few : n ≤ 8
  pub in_steps : 22 * n ≤ length steps
  pub in_combinators : m ≤ length combinators
  pub rows : all_below n (λ j. row_fits 8 steps (22 * j)) ≡ true

pub record RuleSized (steps : List ℕ) (n : ℕ) (combinators : List ℕ) (m : ℕ) (properties kinds numbers : List ℕ) (l ids entries : ℕ) : Type 0 where
  pub selector : SelectorSized steps n combinators m
  pub counted : Within properties kinds numbers l
  pub ids_sum : ids + ids_held (selector_of steps combinators n) ≤ 8192
  pub entries_sum : entries + l ≤ 4096

pub record OneAccepted (steps : List ℕ) (n : ℕ) (combinators : List ℕ) (m : ℕ) (properties kinds numbers : List ℕ) (l ids entries : ℕ) : Type 0 where
  pub sized : RuleSized steps n combinators m properties kinds numbers l ids entries
  pub ties : m ≡ n - 1
  pub codes : (j : ℕ) → j < m → get_or combinators j 0 ≤ 1
  pub form : Formed properties kinds l

codes_few : (combinators : List ℕ) (m : ℕ) → codes_over combinators m ≡ false → (j : ℕ) → j < m → get_or combinators j 0 ≤ 1
unfolding codes_over
codes_few combinators m e j h = ltb-false 1 (get_or combinators j 0) (not-true _ (all_at (λ i. not (ltb 1 (get_or combinators i 0))) m j h (not-false _ e)))

module _ (steps : List ℕ) (n : ℕ) (combinators : List ℕ) (m : ℕ) where
  pub selector_sized : selector_over steps n combinators m ≡ false → SelectorSized steps n combinators m
  unfolding selector_over
  selector_sized o =
      let p = or_second (ltb 8 n) _ o in
      let q = or_second (ltb (length steps / 22) n) _ p in
      let h = ltb-false (length steps / 22) n (or_first _ _ p) in
      record {
        few = ltb-false 8 n (or_first _ _ o);
        in_steps = omega arith;
        in_combinators = ltb-false (length combinators) m (or_first _ _ q);
        rows = not-false _ (or_second (ltb (length combinators) m) _ q);
      }

  module _ (properties kinds numbers : List ℕ) (l ids entries : ℕ) where
    pub rule_sized : first_of (rule_size_checks steps n combinators m properties kinds numbers l ids entries) ≡ 0 → RuleSized steps n combinators m properties kinds numbers l ids entries
    rule_sized e =
        let (a, r) = first_clear 2 (selector_over steps n combinators m) _ (omega arith) e in
        let (b, s) = first_clear 2 (entries_over properties kinds numbers l) _ (omega arith) r in
        let (c, t) = first_clear 2 (ltb 8192 (ids + ids_held (selector_of steps combinators n))) _ (omega arith) s in
        let (d, _) = first_clear 2 (ltb 4096 (entries + l)) [] (omega arith) t in
        record {
          selector = selector_sized a;
          counted = within properties kinds numbers l _ refl b;
          ids_sum = ltb-false 8192 _ c;
          entries_sum = ltb-false 4096 _ d;
        }

    pub one_accepted : first_of (one_rule_checks steps n combinators m properties kinds numbers l ids entries) ≡ 0 → OneAccepted steps n combinators m properties kinds numbers l ids entries
    one_accepted e =
        let (a, r) = first_both (rule_size_checks steps n combinators m properties kinds numbers l ids entries) (rule_form_checks n combinators m ++ form_checks properties kinds l) refl e in
        let (b, s) = first_both (rule_form_checks n combinators m) (form_checks properties kinds l) refl r in
        let (c, t) = first_clear 3 (combinators_off n m) _ (omega arith) b in
        let (d, _) = first_clear 6 (codes_over combinators m) [] (omega arith) t in
        record { sized = rule_sized a; ties = eqb-true m (n - 1) (not-false _ c); codes = codes_few combinators m d; form = formed properties kinds l s }

-- ---- rule k of a group, after `ids` ids and `entries` entries before the group

abbrev pub RuleAccepted : ℕ → ℕ → Group → ℕ → Type 0
RuleAccepted ids entries g k =
    OneAccepted (steps_from g k) (step_count g k) (combinators_from g k) (combinator_count g k) (properties_from g k) (kinds_from g k) (numbers_from g k) (entry_count g k)
    (ids + id_total g k)
    (entries + entry_total g k)

abbrev pub RulesAccepted : ℕ → ℕ → Group → ℕ → Type 0
RulesAccepted ids entries g n = (k : ℕ) → k < n → RuleAccepted ids entries g k

module _ (ids entries : ℕ) (g : Group) where
  pub rule_accepted : (k : ℕ) → first_of (rule_checks ids entries g k) ≡ 0 → RuleAccepted ids entries g k
  unfolding rule_checks
  rule_accepted k e = one_accepted _ _ _ _ _ _ _ _ _ _ e

  -- every number of its checks is positive
  pub rule_numbers_lem : Positive (rule_checks ids entries g)
  unfolding rule_checks
  rule_numbers_lem k = refl

  pub rules_accepted : (n : ℕ) → first_of (checks_below n (rule_checks ids entries g)) ≡ 0 → RulesAccepted ids entries g n
  rules_accepted n e k h = rule_accepted k (turn_at (rule_checks ids entries g) rule_numbers_lem n k e h)

  -- the code before a step
  code_few : (k : ℕ) → RuleAccepted ids entries g k → (j : ℕ) → j < step_count g k → code_before (combinators_from g k) j ≤ 1
  code_few k a zero h = omega arith
  code_few k a (suc j) h = a.codes j (omega (arith, a.ties))

  -- what the writing asks
  pub selectors_fit : (n : ℕ) → RulesAccepted ids entries g n → SelectorsFit g n
  selectors_fit n a k h =
      let r = a k h in
      record { few = r.sized.selector.few; ties = omega (arith, r.ties, r.sized.selector.few); rows = r.sized.selector.rows; codes = code_few k r }

  pub entries_fit_lem : (n : ℕ) → RulesAccepted ids entries g n → EntriesFit g n
  entries_fit_lem n a k h = (a k h).sized.counted.few

  -- the sums over all of them
  pub step_total_few : (n : ℕ) → RulesAccepted ids entries g n → step_total g n ≤ 8 * n
  step_total_few n a = sum_bound (step_count g) 8 n (λ k h. (a k h).sized.selector.few)

  pub id_total_few : (n : ℕ) → ids ≤ 8192 → RulesAccepted ids entries g n → ids + id_total g n ≤ 8192
  unfolding sum_below selector_given
  id_total_few zero h a = omega arith
  id_total_few (suc n) h a = omega (arith, (a n (omega arith)).sized.ids_sum)

  pub entry_sum_few : (n : ℕ) → entries ≤ 4096 → RulesAccepted ids entries g n → entries + entry_total g n ≤ 4096
  unfolding sum_below
  entry_sum_few zero h a = omega arith
  entry_sum_few (suc n) h a = omega (arith, (a n (omega arith)).sized.entries_sum)

-- ---- a group

pub record GroupAccepted (w : List ℕ) (origin : ℕ) (g : Group) (n : ℕ) : Type 0 where
  pub shape : sheet_shape w ≡ true
  pub origin_fits_lem : origin ≤ 7
  pub rules : Layout.rules_in w + n ≤ 256
  pub rows : 3 * n ≤ length g.rules
  pub each : RulesAccepted (Layout.ids_in w) (all_entries_in w) g n
  pub next : Layout.next_in w ≤ 65535

pub rules_sized : (w rules : List ℕ) (n : ℕ) → rules_over w rules n ≡ false → (Layout.rules_in w + n ≤ 256) × (3 * n ≤ length rules)
unfolding rules_over
rules_sized w rules n e =
    let h = ltb-false (length rules / 3) n (or_second (ltb 256 (Layout.rules_in w + n)) _ e) in
    (ltb-false 256 (Layout.rules_in w + n) (or_first _ _ e), omega arith)

module _ (w : List ℕ) (origin : ℕ) (g : Group) (n : ℕ) where
  pub group_accepted : group_verdict w origin g n ≡ 0 → GroupAccepted w origin g n
  unfolding group_verdict
  group_accepted e =
      let checks = rule_checks (Layout.ids_in w) (all_entries_in w) g in
      let (f, r) = first_both (front_checks w origin) (check 2 (rules_over w g.rules n) ∷ (checks_below n checks ++ index_checks w)) refl e in
      let (o, s) = first_clear 2 (rules_over w g.rules n) (checks_below n checks ++ index_checks w) (omega arith) r in
      let (t, i) = first_both (checks_below n checks) (index_checks w) (positive_below checks (rule_numbers_lem (Layout.ids_in w) (all_entries_in w) g) n) s in
      record {
        shape = (front_accepted w origin f).0;
        origin_fits_lem = (front_accepted w origin f).1;
        rules = (rules_sized w g.rules n o).0;
        rows = (rules_sized w g.rules n o).1;
        each = rules_accepted (Layout.ids_in w) (all_entries_in w) g n t;
        next = index_accepted w i;
      }

-- ---- a cascade

pub record CascadeAccepted (w v : List ℕ) : Type 0 where
  pub shape : sheet_shape w ≡ true
  pub other_shape : sheet_shape v ≡ true
  pub rules : Layout.rules_in w + Layout.rules_in v ≤ 256
  pub styles : Layout.styles_in w + Layout.styles_in v ≤ 64
  pub ids : Layout.ids_in w + Layout.ids_in v ≤ 8192
  pub entries : all_entries_in w + all_entries_in v ≤ 4096
  pub indexes : indexes_over w v ≡ false

module _ (w v : List ℕ) where
  pub cascade_accepted : cascade_verdict w v ≡ 0 → CascadeAccepted w v
  unfolding cascade_verdict sums_over
  cascade_accepted e =
      let (a, r) = first_clear 11 (not (sheet_shape w)) _ (omega arith) e in
      let (b, s) = first_clear 11 (not (sheet_shape v)) _ (omega arith) r in
      let (c, t) = first_clear 2 (sums_over w v) _ (omega arith) s in
      let (d, _) = first_clear 7 (indexes_over w v) [] (omega arith) t in
      let p = or_second (ltb 256 (Layout.rules_in w + Layout.rules_in v)) _ c in
      let q = or_second (ltb 64 (Layout.styles_in w + Layout.styles_in v)) _ p in
      record {
        shape = not-false _ a;
        other_shape = not-false _ b;
        rules = ltb-false 256 (Layout.rules_in w + Layout.rules_in v) (or_first _ _ c);
        styles = ltb-false 64 (Layout.styles_in w + Layout.styles_in v) (or_first _ _ p);
        ids = ltb-false 8192 (Layout.ids_in w + Layout.ids_in v) (or_first _ _ q);
        entries = ltb-false 4096 (all_entries_in w + all_entries_in v) (or_second (ltb 8192 (Layout.ids_in w + Layout.ids_in v)) _ q);
        indexes = d;
      }
