-- What an accepted push adds is ready to be laid: it is good, it has room, and the sheet's sums stay within their sizes. Assumes nothing.
use mathlib.Core.Path.{◌≡◌, refl, sym, ap, ◌∙◌}
use mathlib.Core.Bool.{true, not}
use mathlib.Core.Logic.{inl, inr}
use mathlib.Core.List.Memᴰ
use mathlib.Core.List.{List, [], ◌∷◌, ◌++◌, map, flat_map}
use Prim.Native.Nat.{ℕ, zero, suc, ◌+◌, ◌*◌, ◌≤◌}
use native.Mathlib.Omega.{arith}
use lib.ListN.{length, get_or, take, drop, length-map, length-append, length-take}
use lib.Seq.{get_or-drop}
use lib.Dec.{leb, ltb}
use borrow.Author.Tests.{leb-true, lt-ltb, le-ltb, ltb-false, not-true, not-false}
use Rattle.theory.specs.Lists.{◌∈◌, ascends, at_most, spread, sum_below, total}
use Rattle.theory.specs.Paths.{Part}
use Rattle.theory.proofs.Lists.{le_or_lt, and_left, and_right, sort_length, sort_ascending, ascends_is}
use Rattle.theory.proofs.Spreads.{length_spread, map_spread, part_spread, flat_map_one, sum_same}
use Rattle.lent.specs.All.{all_below}
use Rattle.lent.proofs.All.{all_at}
use Rattle.selector.specs.Tags.{Tags}
use Rattle.selector.specs.Rows.{row_at, comb_before, step_at, selector_of}
use Rattle.selector.specs.Checks.{row_fits}
use Rattle.style.specs.Entries.{entries_of}
use Rattle.style.proofs.CheckLaws.{Within}
use Rattle.sheet.specs.Layout
use Rattle.sheet.specs.Sheets.{Style, Rule, sheet_of}
use Rattle.sheet.specs.Shape.{sheet_shape}
use Rattle.sheet.specs.Laying.{rule_entries, style_entries, steps_of, ids_held}
use Rattle.sheet.proofs.Shaped.{shaped}
use Rattle.laid.proofs.Frame.{Sizes}
use Rattle.laid.proofs.Shaping.{FirstChild, GoodEntries, GoodStep, GoodStyle, GoodRule, Good}
use Rattle.laid.proofs.Held as held
use Rattle.given.specs.Given.{style_given, Group, step_count, entry_count, steps_from, combinators_from, properties_from, kinds_from, numbers_from, selector_given, entries_given, rule_given, rules_given}
use Rattle.given.specs.Pushing.{all_entries_in, indexes_of, shift_style, shift_rule, indexes_over, largest, next_after}
use Rattle.given.specs.Leaves.{step_total, entry_total, id_total}
use Rattle.given.proofs.Accepted.{Formed, StyleAccepted, RuleAccepted, GroupAccepted, CascadeAccepted, step_total_few, id_total_few, entry_sum_few}
use Rattle.made.specs.Made.{Halves}

-- What `laid` asks of an addition, and what is asked of the sheet and of the next source index
pub record Ready (w : List ℕ) (styles : List Style) (rules : List Rule) (next : ℕ) : Type 0 where
  pub shape : sheet_shape w ≡ true
  pub sizes : Sizes w styles rules
  pub entries_sum : Layout.entries_in w + length (rule_entries rules) + (Layout.style_entries_in w + length (style_entries styles)) ≤ 4096
  pub ids_sum : Layout.ids_in w + ids_held (steps_of rules) ≤ 8192
  pub good : Good styles rules
  pub next_fits_lem : next ≤ 65536

-- ---- entries as given

module _ (properties kinds numbers : List ℕ) (n : ℕ) where
  entries_length : length (entries_of properties kinds numbers n) ≡ n
  unfolding entries_of
  entries_length = length_spread _ 0 n

  module _ (c : Within properties kinds numbers n) where
    properties_are : map (λ e. e.property) (entries_of properties kinds numbers n) ≡ take n properties
    unfolding entries_of
    properties_are = map_spread (λ e. e.property) _ 0 n ∙ sym (part_spread properties 0 0 n (omega (arith, c.in_properties)))

    kinds_are : map (λ e. e.kind) (entries_of properties kinds numbers n) ≡ take n kinds
    unfolding entries_of
    kinds_are = map_spread (λ e. e.kind) _ 0 n ∙ sym (part_spread kinds 0 0 n (omega (arith, c.in_kinds)))

    module _ (f : Formed properties kinds n) where
      entries_ascend : ascends (map (λ e. e.property) (entries_of properties kinds numbers n)) ≡ true
      entries_ascend = rw properties_are f.sorted

      entries_good : Halves properties → GoodEntries (entries_of properties kinds numbers n)
      entries_good u = record {
        properties_fit_lem = unfold entries_of in rw map_spread (held.most_spread 65535 (λ k. get_or properties k 0) 0 n (λ k a b. omega (arith, u k)));
        kinds_fit_lem = rw kinds_are f.kinds_few;
      }

-- ---- a style

module _ {w : List ℕ} {origin : ℕ} {properties kinds numbers : List ℕ} {n : ℕ} (a : StyleAccepted w origin properties kinds numbers n) (u : Halves properties) where
  style_good : GoodStyle (style_given origin (Layout.next_in w) properties kinds numbers n)
  style_good = record {
    fits = record {
      origin_fits_lem = a.origin_fits_lem;
      source_fits_lem = a.next;
      entries_few = rw entries_length a.counted.few;
      entries_ascend = entries_ascend properties kinds numbers n a.counted a.form;
    };
    entries_good = entries_good properties kinds numbers n a.counted a.form u;
  }

  pub style_ready : Ready w (style_given origin (Layout.next_in w) properties kinds numbers n ∷ []) [] (Layout.next_in w + 1)
  unfolding flat_map
  style_ready =
      let s = shaped w a.shape in
      let x = style_given origin (Layout.next_in w) properties kinds numbers n in
      let e : length (style_entries (x ∷ [])) ≡ n = ap length (flat_map_one (λ d. d.entries) x) ∙ entries_length properties kinds numbers n in
      let p = a.counted.few in
      let q = a.entries_sum in
      record {
        shape = a.shape;
        sizes = record {
          room = s.room;
          rules_fit_lem = omega (arith, s.rules);
          steps_fit_lem = omega (arith, s.steps);
          entries_fit_lem = omega arith;
          styles_fit_lem = omega (arith, a.styles);
          style_entries_fit_lem = omega (arith, a.styles, held.style_entries_few s);
        };
        entries_sum = omega arith;
        ids_sum = unfold ids_held total in omega (arith, s.ids);
        good = record {
          styles_good = λ d m. rw (Memᴰ.eq_of_singleton m) style_good;
          rules_good = λ r m. absurd (Memᴰ.not-nil m);
        };
        next_fits_lem = omega (arith, a.next);
      }

-- ---- a group

-- a given selector: its steps' ids are sorted and made unique
module _ (steps combinators : List ℕ) (n : ℕ) where
  selector_length : length (selector_of steps combinators n) ≡ n
  unfolding selector_of
  selector_length = length_spread _ 0 n

  selector_first : FirstChild (selector_of steps combinators n)
  unfolding selector_of
  selector_first = first n
    where
      first : (n : ℕ) → FirstChild (spread (λ k. record { comb = comb_before combinators k; step = step_at steps k }) 0 n)
      first zero = tt
      first (suc n) = refl

  steps_good : all_below n (λ j. row_fits 8 steps (22 * j)) ≡ true → (p : Part Tags) → p ∈ selector_of steps combinators n → GoodStep p
  unfolding selector_of row_at
  steps_good rows p m =
      let (k, a, b, e) = held.spread_in _ 0 n p m in
      let fits = all_at (λ j. row_fits 8 steps (22 * j)) n k (omega arith) rows in
      let c = ltb-false 8 (get_or steps (22 * k + 4) 0) (not-true _ (and_left _ _ fits)) in
      let d = ltb-false 8 (get_or steps (22 * k + 5) 0) (not-true _ (and_right (not (ltb 8 (get_or steps (22 * k + 4) 0))) _ fits)) in
      rw e (record {
        classes_few = omega (arith, sort_length (row_at 8 steps (22 * k)).classes, length-take (get_or steps (22 * k + 4) 0) (drop (22 * k + 6) steps));
        pseudos_few = omega (arith, sort_length (row_at 8 steps (22 * k)).pseudos, length-take (get_or steps (22 * k + 5) 0) (drop (22 * k + 14) steps));
        classes_ascend_lem = (ascends_is _).1 (sort_ascending (row_at 8 steps (22 * k)).classes);
        pseudos_ascend_lem = (ascends_is _).1 (sort_ascending (row_at 8 steps (22 * k)).pseudos);
      })

module _ (ids entries : ℕ) (g : Group) (k : ℕ) (a : RuleAccepted ids entries g k) (u : Halves g.properties) where
  rule_good : (origin source : ℕ) → origin ≤ 7 → source ≤ 65535 → GoodRule (rule_given origin source g k)
  unfolding rule_given selector_given entries_given
  rule_good origin source o s =
      let c = a.sized.counted in
      record {
        fits = record {
          origin_fits_lem = o;
          source_fits_lem = s;
          steps_few = rw selector_length a.sized.selector.few;
          entries_few = rw entries_length c.few;
          untied = selector_first (steps_from g k) (combinators_from g k) (step_count g k);
          entries_ascend = entries_ascend (properties_from g k) (kinds_from g k) (numbers_from g k) (entry_count g k) c a.form;
        };
        steps_good = steps_good (steps_from g k) (combinators_from g k) (step_count g k) a.sized.selector.rows;
        entries_good = entries_good (properties_from g k) (kinds_from g k) (numbers_from g k) (entry_count g k) c a.form (λ i. rw get_or-drop (u (sum_below (entry_count g) k + i)));
      }

-- what all rules of a group hold
module _ (origin source : ℕ) (g : Group) (n : ℕ) where
  pub given_rules : length (rules_given origin source g n) ≡ n
  unfolding rules_given
  given_rules = length_spread (rule_given origin source g) 0 n

  given_steps : length (steps_of (rules_given origin source g n)) ≡ step_total g n
  unfolding rules_given rule_given selector_given
  given_steps =
      held.sum_flat length (λ r. r.selector) (rule_given origin source g) n refl length-append
      ∙ sum_same _ (step_count g) n (λ k h. selector_length (steps_from g k) (combinators_from g k) (step_count g k))

  given_entries : length (rule_entries (rules_given origin source g n)) ≡ entry_total g n
  unfolding rules_given rule_given entries_given
  given_entries =
      held.sum_flat length (λ r. r.entries) (rule_given origin source g) n refl length-append
      ∙ sum_same _ (entry_count g) n (λ k h. entries_length (properties_from g k) (kinds_from g k) (numbers_from g k) (entry_count g k))

  given_ids : ids_held (steps_of (rules_given origin source g n)) ≡ id_total g n
  unfolding rules_given rule_given
  given_ids = held.sum_flat ids_held (λ r. r.selector) (rule_given origin source g) n (unfold ids_held total in refl) held.ids_append

module _ {w : List ℕ} {origin : ℕ} {g : Group} {n : ℕ} (a : GroupAccepted w origin g n) (u : Halves g.properties) where
  pub group_ready : Ready w [] (rules_given origin (Layout.next_in w) g n) (Layout.next_in w + 1)
  unfolding flat_map
  group_ready =
      let s = shaped w a.shape in
      let i = Layout.ids_in w in
      let e = all_entries_in w in
      let x = given_rules origin (Layout.next_in w) g n in
      let y = given_steps origin (Layout.next_in w) g n in
      let z = given_entries origin (Layout.next_in w) g n in
      let all = entry_sum_few i e g n s.entries a.each in
      record {
        shape = a.shape;
        sizes = record {
          room = s.room;
          rules_fit_lem = omega (arith, a.rules);
          steps_fit_lem = omega (arith, a.rules, held.steps_few s, step_total_few i e g n a.each);
          entries_fit_lem = omega arith;
          styles_fit_lem = omega (arith, s.styles);
          style_entries_fit_lem = omega (arith, s.style_entries_lem);
        };
        entries_sum = omega arith;
        ids_sum = rw given_ids (id_total_few i e g n s.ids a.each);
        good = record {
          styles_good = λ d m. absurd (Memᴰ.not-nil m);
          rules_good = unfold rules_given in λ r m.
              let (k, _, b, q) = held.spread_in (rule_given origin (Layout.next_in w) g) 0 n r m in
              rw q (rule_good i e g k (a.each k (omega arith)) u origin (Layout.next_in w) a.origin_fits_lem a.next);
        };
        next_fits_lem = omega (arith, a.next);
      }

-- ---- a cascade

at_most_in : (limit : ℕ) (l : List ℕ) (x : ℕ) → at_most limit l ≡ true → x ∈ l → x ≤ limit
unfolding at_most
at_most_in limit [] x e m = absurd (Memᴰ.not-nil m)
at_most_in limit (a ∷ l) x e m = elim (Memᴰ.cases_cons m) [
  | inl q ↦ omega (arith, leb-true a limit (and_left (leb a limit) _ e))
  | inr i ↦ at_most_in limit l x (and_right (leb a limit) _ e) i
]

largest_fits : (limit k : ℕ) (l : List ℕ) → k ≤ limit → at_most limit (map (λ x. k + x) l) ≡ true → k + largest l ≤ limit
unfolding largest at_most
largest_fits limit k [] h e = omega arith
largest_fits limit k (a ∷ l) h e = elim (le_or_lt (largest l) a) [
  | inl p ↦ rw (le-ltb a (largest l) p) (leb-true (k + a) limit (and_left (leb (k + a) limit) _ e))
  | inr p ↦ rw (lt-ltb a (largest l) p) (largest_fits limit k l h (and_right (leb (k + a) limit) _ e))
]

next_few : (k : ℕ) (l : List ℕ) → k ≤ 65536 → at_most 65535 (map (λ x. k + x) l) ≡ true → next_after k l ≤ 65536
next_few k [] h e = h
next_few k (a ∷ l) h e =
    let p = at_most_in 65535 (map (λ x. k + x) (a ∷ l)) (k + a) e (Memᴰ.head refl) in
    omega (arith, largest_fits 65535 k (a ∷ l) (omega arith) e)

-- raised, they hold what they held
flat_map_lem : {A B C : Type 0} (g : B → List C) (f : A → B) (l : List A) → flat_map g (map f l) ≡ flat_map (λ x. g (f x)) l
unfolding flat_map
flat_map_lem g f [] = refl
flat_map_lem g f (a ∷ l) = ap (λ r. g (f a) ++ r) (flat_map_lem g f l)

module _ {w v : List ℕ} (a : CascadeAccepted w v) where
  -- no index is over 65,535
  indexes_few : (x : ℕ) → x ∈ indexes_of (sheet_of v) → Layout.next_in w + x ≤ 65535
  unfolding indexes_over
  indexes_few x m =
      let k = Layout.next_in w in
      at_most_in 65535 (map (λ y. k + y) (indexes_of (sheet_of v))) (k + x) (not-false _ a.indexes) (Memᴰ.map (λ y. k + y) m)

  raised_style_lem : (d : Style) → d ∈ (sheet_of v).styles → GoodStyle d → GoodStyle (shift_style (Layout.next_in w) d)
  raised_style_lem d m g = record {
    fits = record {
      origin_fits_lem = g.fits.origin_fits_lem;
      source_fits_lem = indexes_few d.source (Memᴰ.append_left _ (Memᴰ.map (λ x. x.source) m));
      entries_few = g.fits.entries_few;
      entries_ascend = g.fits.entries_ascend;
    };
    entries_good = g.entries_good;
  }

  raised_rule_lem : (r : Rule) → r ∈ (sheet_of v).rules → GoodRule r → GoodRule (shift_rule (Layout.next_in w) r)
  raised_rule_lem r m g = record {
    fits = record {
      origin_fits_lem = g.fits.origin_fits_lem;
      source_fits_lem = indexes_few r.source (Memᴰ.append_right (map (λ d. d.source) (sheet_of v).styles) (Memᴰ.map (λ x. x.source) m));
      steps_few = g.fits.steps_few;
      entries_few = g.fits.entries_few;
      untied = g.fits.untied;
      entries_ascend = g.fits.entries_ascend;
    };
    steps_good = g.steps_good;
    entries_good = g.entries_good;
  }

  pub cascade_ready : Ready w (map (shift_style (Layout.next_in w)) (sheet_of v).styles) (map (shift_rule (Layout.next_in w)) (sheet_of v).rules) (next_after (Layout.next_in w) (indexes_of (sheet_of v)))
  cascade_ready =
      let k = Layout.next_in w in
      let s = shaped w a.shape in
      let t = shaped v a.other_shape in
      let styles = (sheet_of v).styles in
      let rules = (sheet_of v).rules in
      let b : length (map (shift_rule k) rules) ≡ Layout.rules_in v = length-map rules (shift_rule k) ∙ held.rules_count t in
      let c : length (map (shift_style k) styles) ≡ Layout.styles_in v = length-map styles (shift_style k) ∙ held.styles_count t in
      let d : length (steps_of (map (shift_rule k) rules)) ≡ Layout.steps_in v = ap length (flat_map_lem (λ r. r.selector) (shift_rule k) rules) ∙ held.steps_count t in
      let e : length (rule_entries (map (shift_rule k) rules)) ≡ Layout.entries_in v = ap length (flat_map_lem (λ r. r.entries) (shift_rule k) rules) ∙ held.entries_count t in
      let f : length (style_entries (map (shift_style k) styles)) ≡ Layout.style_entries_in v = ap length (flat_map_lem (λ x. x.entries) (shift_style k) styles) ∙ held.style_entries_count t in
      let i : ids_held (steps_of (map (shift_rule k) rules)) ≡ Layout.ids_in v = ap ids_held (flat_map_lem (λ r. r.selector) (shift_rule k) rules) ∙ held.ids_count t in
      let all = a.entries in
      record {
        shape = a.shape;
        sizes = record {
          room = s.room;
          rules_fit_lem = omega (arith, a.rules);
          steps_fit_lem = omega (arith, a.rules, held.steps_few s, held.steps_few t);
          entries_fit_lem = omega arith;
          styles_fit_lem = omega (arith, a.styles);
          style_entries_fit_lem = omega (arith, a.styles, held.style_entries_few s, held.style_entries_few t);
        };
        entries_sum = omega arith;
        ids_sum = omega (arith, a.ids);
        good = record {
          styles_good = λ x m. let (y, l, q) = Memᴰ.of_map (shift_style k) styles m in rw (← q) (raised_style_lem y l ((held.held_good t).styles_good y l));
          rules_good = λ x m. let (y, l, q) = Memᴰ.of_map (shift_rule k) rules m in rw (← q) (raised_rule_lem y l ((held.held_good t).rules_good y l));
        };
        next_fits_lem = unfold indexes_over in next_few k (indexes_of (sheet_of v)) s.next (not-false _ a.indexes);
      }
