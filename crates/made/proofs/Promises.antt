-- What is so of every sheet made by accepted pushes. Assumes nothing.
use mathlib.Core.Path.{◌≡◌, refl, sym, ap, ◌∙◌}
use mathlib.Core.Logic.{◌≢◌}
use mathlib.Core.Bool.{true}
use mathlib.Core.Option.{none, some}
use mathlib.Core.List.{List, [], map}
use Prim.Native.Nat.{ℕ, ◌+◌, ◌*◌, ◌≤◌, ◌<◌}
use native.Mathlib.Nat.{zero-add, add-zero}
use native.Mathlib.Omega.{arith}
use lib.ListN.{length, get_or, get_elem?, length-map}
use lib.IntN.{pos}
use lib.Dec.{ltb}
use borrow.Author.Tests.{ltb-false}
use Rattle.theory.specs.Lists.{spread}
use Rattle.theory.specs.Paths.{Part}
use Rattle.theory.specs.Cascade.{compare_keys}
use Rattle.theory.proofs.Spreads.{length_spread, map_spread, get_or_spread, get_elem?-spread}
use Rattle.lent.proofs.Refusals.{first_clear}
use Rattle.selector.specs.Tags.{Tags, as_sets}
use Rattle.selector.specs.Rows.{row_at, step_at, comb_before, selector_of}
use Rattle.steps.specs.Steps.{step_tags}
use Rattle.sheet.specs.Layout
use Rattle.sheet.specs.Sheets.{Style, Rule, Source, sources_of, key_of, rule_at, style_at, sheet_of}
use Rattle.sheet.specs.Shape.{sheet_shape}
use Rattle.sheet.specs.Laying.{emptied}
use Rattle.std.specs.Prelude.{Result, Option}
use Rattle.lent.specs.declared.Refusal.{Refusal}
use Rattle.steps.specs.declared.SelectorStep.{SelectorStep}
use Rattle.reading.specs.Reading.{step_of, StepRead}
use Rattle.sheet.proofs.Shaped.{shaped}
use Rattle.reading.proofs.Readers.{step_of_rule}
use Rattle.weighed.proofs.Saturation.{rule_never_saturates}
use Rattle.laid.proofs.Reading.{before_or_added, no_rule}
use Rattle.laid.proofs.Held.{rules_count}
use Rattle.laid.proofs.Emptied.{read_emptied, shape_emptied}
use Rattle.given.specs.Given.{style_given, Group, step_count, steps_from, combinators_from, selector_given, rule_given, rules_given}
use Rattle.given.specs.Pushing.{empty_verdict, style_push_verdict, pushed_style, group_verdict, pushed_group, cascade_verdict, pushed_cascade, shift_rule}
use Rattle.given.proofs.Accepted.{group_accepted}
use Rattle.made.specs.Made.{Halves, Made, empty, style, group, cascade}
use Rattle.made.specs.Pushed.{Pushed, ReadBack, Bounded}
use Rattle.made.proofs.Distinct.{Apart, apart_empty, apart_style, apart_group, apart_cascade, keys_differ, keys_apart}
use Rattle.made.proofs.Accepting.{given_rules}
use Rattle.made.proofs.Pushed.{style_pushed, group_pushed, cascade_pushed, rules_more, rules_kept, rules_new, styles_new}

-- an accepted room
room_enough_lem : (w : List ℕ) → empty_verdict w ≡ 0 → Layout.SHEET-WORDS ≤ length w
unfolding empty_verdict
room_enough_lem w e = ltb-false (length w) Layout.SHEET-WORDS (first_clear 11 (ltb (length w) Layout.SHEET-WORDS) [] (omega arith) e).0

-- ---- it has good shape: no call refuses it by 11

pub made_shaped : {w : List ℕ} → Made w → sheet_shape w ≡ true
made_shaped (empty w e) = shape_emptied w (room_enough_lem w e)
made_shaped (style {w} m origin properties kinds numbers n u e) = (style_pushed w origin properties kinds numbers n u e).shape
made_shaped (group {w} m origin g n u e) = (group_pushed w origin g n u e).shape
made_shaped (cascade {w} {v} m k e) = (cascade_pushed w v e).shape

-- ---- "In a sheet made by accepted pushes distinct sources never have equal keys"

style_apart : (w : List ℕ) (origin : ℕ) (properties kinds numbers : List ℕ) (n : ℕ) → Halves properties → style_push_verdict w origin properties kinds numbers n ≡ 0
    → Apart (sheet_of w)
    → Apart (sheet_of (pushed_style w origin properties kinds numbers n))
unfolding sheet_of
style_apart w origin properties kinds numbers n u e p =
    rw (style_pushed w origin properties kinds numbers n u e).sheet (apart_style (sheet_of w) (style_given origin (Layout.next_in w) properties kinds numbers n) p refl)

group_apart : (w : List ℕ) (origin : ℕ) (g : Group) (n : ℕ) → Halves g.properties → group_verdict w origin g n ≡ 0 → Apart (sheet_of w) → Apart (sheet_of (pushed_group w origin g n))
unfolding sheet_of
group_apart w origin g n u e p = rw (group_pushed w origin g n u e).sheet (apart_group (sheet_of w) origin g n p)

cascade_apart : (w v : List ℕ) → cascade_verdict w v ≡ 0 → Apart (sheet_of w) → Apart (sheet_of v) → Apart (sheet_of (pushed_cascade w v))
unfolding sheet_of
cascade_apart w v e p q = rw (cascade_pushed w v e).sheet (apart_cascade (sheet_of w) (sheet_of v) p q)

pub made_apart : {w : List ℕ} → Made w → Apart (sheet_of w)
made_apart (empty w e) = rw (read_emptied w (room_enough_lem w e)) apart_empty
made_apart (style {w} m origin properties kinds numbers n u e) = style_apart w origin properties kinds numbers n u e (made_apart m)
made_apart (group {w} m origin g n u e) = group_apart w origin g n u e (made_apart m)
made_apart (cascade {w} {v} m k e) = cascade_apart w v e (made_apart m) (made_apart k)

-- in both rankings, whichever two of its sources: the keys differ,
pub made_differ : {w : List ℕ} → Made w → (i j : ℕ) → i ≢ j → (a b : Source) → get_elem? (sources_of (sheet_of w)) i ≡ some a → get_elem? (sources_of (sheet_of w)) j ≡ some b
    → (ranking : ℕ) → key_of ranking a ≢ key_of ranking b
made_differ {w} m = keys_differ (sheet_of w) (made_apart m)

-- and their comparison answers -1 or 1
pub made_compare : {w : List ℕ} → Made w → (i j : ℕ) → i ≢ j → (a b : Source) → get_elem? (sources_of (sheet_of w)) i ≡ some a → get_elem? (sources_of (sheet_of w)) j ≡ some b
    → (ranking : ℕ) → compare_keys (key_of ranking a) (key_of ranking b) ≢ pos 0
made_compare {w} m = keys_apart (sheet_of w) (made_apart m)

-- ---- its numbers

abbrev Orders : List ℕ → Type 0
Orders w = (r : ℕ) → r < Layout.rules_in w → (rule_at w r).order < 256

orders_pushed : {w w' : List ℕ} {styles : List Style} {rules : List Rule} {next : ℕ} → Pushed w styles rules next w' → Orders w
    → ((k : ℕ) → k < length rules → (get_or rules k no_rule).order < 256)
    → Orders w'
orders_pushed {w} {w'} {styles} {rules} p old new r h =
    before_or_added (λ r. (rule_at w' r).order < 256) (Layout.rules_in w) (length rules)
    (λ k l. rw (rules_kept p k l) (old k l))
    (λ k l. rw (rules_new p no_rule k l) (new k l))
    r (rw (rules_more p) at h)

empty_orders : (w : List ℕ) → Layout.SHEET-WORDS ≤ length w → Orders (emptied w)
empty_orders w room r h = absurd (omega (arith, rules_count (shaped (emptied w) (shape_emptied w room)), ap (λ s. length s.rules) (read_emptied w room)))

-- the order of a group's rule k is k,
given_at : (origin source : ℕ) (g : Group) (n k : ℕ) → k < n → get_or (rules_given origin source g n) k no_rule ≡ rule_given origin source g k
unfolding rules_given
given_at origin source g n k h = get_or_spread (rule_given origin source g) 0 n k no_rule h ∙ rw (zero-add k)

given_orders : (origin source : ℕ) (g : Group) (n : ℕ) → n ≤ 256 → (k : ℕ) → k < length (rules_given origin source g n) → (get_or (rules_given origin source g n) k no_rule).order < 256
unfolding rule_given
given_orders origin source g n few k h = let l = given_rules origin source g n in rw (given_at origin source g n k (omega arith)) (omega arith)

-- and that of a cascade's rule stays
raised_orders : (v : List ℕ) (x : ℕ) → Orders v → (k : ℕ) → k < length (map (shift_rule x) (sheet_of v).rules) → (get_or (map (shift_rule x) (sheet_of v).rules) k no_rule).order < 256
unfolding sheet_of
raised_orders v x old k h =
    let n = Layout.rules_in v in
    let q : k < n = omega (arith, length-map (spread (rule_at v) 0 n) (shift_rule x), length_spread (rule_at v) 0 n) in
    rw (map_spread (shift_rule x) (rule_at v) 0 n, get_or_spread (λ i. shift_rule x (rule_at v i)) 0 n k no_rule q, zero-add k) (old k q)

made_orders : {w : List ℕ} → Made w → Orders w
made_orders (empty w e) = empty_orders w (room_enough_lem w e)
made_orders (style {w} m origin properties kinds numbers n u e) = orders_pushed (style_pushed w origin properties kinds numbers n u e) (made_orders m) (λ k l. absurd (omega arith))
made_orders (group {w} m origin g n u e) =
    orders_pushed (group_pushed w origin g n u e) (made_orders m) (given_orders origin (Layout.next_in w) g n (omega (arith, (group_accepted w origin g n e).rules)))
made_orders (cascade {w} {v} m i e) = orders_pushed (cascade_pushed w v e) (made_orders m) (raised_orders v (Layout.next_in w) (made_orders i))

-- so the Rust's saturation is never met
pub made_bounded : {w : List ℕ} → Made w → Bounded w
unfolding rule_at style_at
made_bounded {w} m =
    let s = shaped w (made_shaped m) in
    record {
      next = s.next;
      style_sources = λ d h. (s.each_style d h).source;
      rule_sources = λ r h. (s.each_rule r h).source;
      orders = made_orders m;
      weights = λ r h. rule_never_saturates w r (made_shaped m) h;
    }

-- ---- what was pushed is read back

-- step i of a given rule
abbrev part_given : Group → ℕ → ℕ → Part Tags
part_given g k i = record { comb = comb_before (combinators_from g k) i; step = step_at (steps_from g k) i }

length_given : (g : Group) (k : ℕ) → length (selector_given g k) ≡ step_count g k
unfolding selector_given selector_of
length_given g k = length_spread _ 0 (step_count g k)

given_step : (g : Group) (k i : ℕ) → i < step_count g k → get_elem? (selector_given g k) i ≡ some (part_given g k i)
unfolding selector_given selector_of
given_step g k i h =
    rw (zero-add i) at (get_elem?-spread {A = Part Tags} (λ j. record { comb = comb_before (combinators_from g k) j; step = step_at (steps_from g k) j }) 0 (step_count g k) i h)

some_same : {A : Type 0} (a b : A) → some a ≡ some b → a ≡ b
some_same a b e = ap (λ o. elim o [ none ↦ a | some x ↦ x ]) e

pub read_back_lem : (w : List ℕ) (origin : ℕ) (g : Group) (n : ℕ) → Halves g.properties → group_verdict w origin g n ≡ 0
    → (k : ℕ) → k < n → ReadBack w origin g k (pushed_group w origin g n)
unfolding rule_given
read_back_lem w origin g n u e k h =
    let p = group_pushed w origin g n u e in
    let l = given_rules origin (Layout.next_in w) g n in
    record { there = omega (arith, rules_more p); is = rules_new p no_rule k (omega arith) ∙ given_at origin (Layout.next_in w) g n k h }

-- so that a step which `rule_step` finds there asks for what the given row asks for, "sorted and made unique"
pub step_back : (w : List ℕ) (origin : ℕ) (g : Group) (n : ℕ) → Halves g.properties → group_verdict w origin g n ≡ 0 → (k : ℕ) → k < n → (i : ℕ) → i < step_count g k
    → (a : Result (Option SelectorStep) Refusal) → StepRead (pushed_group w origin g n) (Layout.rules_in w + k) i a → step_tags (step_of a) ≡ as_sets (row_at 8 (steps_from g k) (22 * i))
step_back w origin g n u e k h i l a read =
    let w' = pushed_group w origin g n in
    let r : ℕ = Layout.rules_in w + k in
    let b = read_back_lem w origin g n u e k h in
    let c : (rule_at w' r).selector ≡ selector_given g k = ap (λ (x : Rule). x.selector) b.is in
    let (p, f, t) = step_of_rule w' (group_pushed w origin g n u e).shape r i a read b.there (rw (c, length_given g k) l) in
    t ∙ ap (λ (x : Part Tags). x.step) (some_same p (part_given g k i) (sym (rw c at f) ∙ given_step g k i l))

-- a pushed direct style, read back
pub style_back : (w : List ℕ) (origin : ℕ) (properties kinds numbers : List ℕ) (n : ℕ) → Halves properties → style_push_verdict w origin properties kinds numbers n ≡ 0
    → style_at (pushed_style w origin properties kinds numbers n) (Layout.styles_in w) ≡ style_given origin (Layout.next_in w) properties kinds numbers n
style_back w origin properties kinds numbers n u e =
    let p = style_pushed w origin properties kinds numbers n u e in
    ap (style_at (pushed_style w origin properties kinds numbers n)) (sym (add-zero (Layout.styles_in w))) ∙ styles_new p (style_given origin (Layout.next_in w) properties kinds numbers n) 0 (omega arith)
