-- When a push is refused, and what an accepted one leaves: 01's table, its "Order", and "Weight, winners, changes". Assumes nothing.
use Rattle.std.specs.Prelude.{Bool, cond, not, ◌||◌, List, [], ◌∷◌, ◌++◌, map, ℕ, ◌+◌, ◌/◌, length, ltb}
use Rattle.theory.specs.Sizes
use Rattle.theory.specs.Lists.{at_most, sum_below}
use Rattle.lent.specs.Refusals.{Check, check, first_of, checks_below}
use Rattle.selector.specs.Rows.{selector_of}
use Rattle.selector.specs.Checks.{selector_over, combinators_off, codes_over}
use Rattle.style.specs.Checks.{entries_over, kinds_over, properties_off}
use Rattle.sheet.specs.Layout
use Rattle.sheet.specs.Sheets.{Style, Rule, Sheet, sheet_of}
use Rattle.sheet.specs.Shape.{sheet_shape}
use Rattle.sheet.specs.Laying.{ids_held, lay}
use Rattle.given.specs.Given.{style_given, Group, step_count, combinator_count, entry_count, steps_from, combinators_from, properties_from, kinds_from, numbers_from, selector_given, rules_given}

-- ---- the empty sheet: 11 if there is no room for it

unfoldable pub empty_verdict : List ℕ → ℕ
empty_verdict w = first_of (check 11 (ltb (length w) Layout.SHEET-WORDS) ∷ [])

-- ---- every push of a source: 11, 6 for the origin; at the end 7, "a push would use a source index over 65,535"

abbrev pub front_checks : List ℕ → ℕ → List Check
front_checks w origin = check 11 (not (sheet_shape w)) ∷ check 6 (ltb Sizes.ORIGIN origin) ∷ []

abbrev pub index_checks : List ℕ → List Check
index_checks w = check 7 (ltb Sizes.SOURCE-INDEX (Layout.next_in w)) ∷ []

-- the entries held in the whole sheet
abbrev pub all_entries_in : List ℕ → ℕ
all_entries_in w = Layout.entries_in w + Layout.style_entries_in w

-- entry kinds, then property ids
abbrev pub form_checks : List ℕ → List ℕ → ℕ → List Check
form_checks properties kinds n = check 6 (kinds_over kinds n) ∷ check 1 (properties_off properties n) ∷ []

-- ---- "Pushing a style 11, 6 (origin), 2, 6, 1, 7"

abbrev pub style_size_checks : List ℕ → List ℕ → List ℕ → List ℕ → ℕ → List Check
style_size_checks w properties kinds numbers n =
    check 2 (ltb Sizes.STYLES (Layout.styles_in w + 1)) ∷ check 2 (entries_over properties kinds numbers n) ∷ check 2 (ltb Sizes.SHEET-ENTRIES (all_entries_in w + n)) ∷ []

unfoldable pub style_push_verdict : List ℕ → ℕ → List ℕ → List ℕ → List ℕ → ℕ → ℕ
style_push_verdict w origin properties kinds numbers n =
    first_of (front_checks w origin ++ (style_size_checks w properties kinds numbers n ++ (form_checks properties kinds n ++ index_checks w)))

-- "Each pushed style or group, an empty group included, takes one source index."
unfoldable pub pushed_style : List ℕ → ℕ → List ℕ → List ℕ → List ℕ → ℕ → List ℕ
pushed_style w origin properties kinds numbers n =
    lay (style_given origin (Layout.next_in w) properties kinds numbers n ∷ []) [] (Layout.next_in w + 1) w

-- ---- "Pushing a group 11, 6 for the origin, 2 for the number of rules, then each rule in turn 2 (sheet sums so far included), 3, 6, 1, then 7"

unfoldable pub rules_over : List ℕ → List ℕ → ℕ → Bool
rules_over w rules n = ltb Sizes.RULES (Layout.rules_in w + n) || ltb (length rules / 3) n

-- one rule of n steps, m combinators and l entries, which begin these lists; before it there are so many ids and entries
abbrev pub rule_size_checks : List ℕ → ℕ → List ℕ → ℕ → List ℕ → List ℕ → List ℕ → ℕ → ℕ → ℕ → List Check
rule_size_checks steps n combinators m properties kinds numbers l ids entries =
    check 2 (selector_over steps n combinators m)
    ∷ check 2 (entries_over properties kinds numbers l)
    ∷ check 2 (ltb Sizes.SHEET-IDS (ids + ids_held (selector_of steps combinators n)))
    ∷ check 2 (ltb Sizes.SHEET-ENTRIES (entries + l))
    ∷ []

abbrev pub rule_form_checks : ℕ → List ℕ → ℕ → List Check
rule_form_checks n combinators m = check 3 (combinators_off n m) ∷ check 6 (codes_over combinators m) ∷ []

abbrev pub one_rule_checks : List ℕ → ℕ → List ℕ → ℕ → List ℕ → List ℕ → List ℕ → ℕ → ℕ → ℕ → List Check
one_rule_checks steps n combinators m properties kinds numbers l ids entries =
    rule_size_checks steps n combinators m properties kinds numbers l ids entries
    ++ (rule_form_checks n combinators m ++ form_checks properties kinds l)

-- rule k of a group, after `ids` ids and `entries` entries before the group
unfoldable pub rule_checks : ℕ → ℕ → Group → ℕ → List Check
rule_checks ids entries g k =
    one_rule_checks (steps_from g k) (step_count g k) (combinators_from g k) (combinator_count g k) (properties_from g k) (kinds_from g k) (numbers_from g k) (entry_count g k)
    (ids + sum_below (λ j. ids_held (selector_given g j)) k)
    (entries + sum_below (entry_count g) k)

unfoldable pub group_verdict : List ℕ → ℕ → Group → ℕ → ℕ
group_verdict w origin g n =
    first_of
    (front_checks w origin
    ++ (check 2 (rules_over w g.rules n) ∷ []
    ++ (checks_below n (rule_checks (Layout.ids_in w) (all_entries_in w) g)
    ++ index_checks w)))

unfoldable pub pushed_group : List ℕ → ℕ → Group → ℕ → List ℕ
pushed_group w origin g n = lay [] (rules_given origin (Layout.next_in w) g n) (Layout.next_in w + 1) w

-- ---- "Pushing a cascade 11, 2, 7": v is pushed onto w

-- "a count is over its size": of rules, of direct styles, and "In a whole sheet" of required ids and of entries
unfoldable pub sums_over : List ℕ → List ℕ → Bool
sums_over w v =
    ltb Sizes.RULES (Layout.rules_in w + Layout.rules_in v)
    || (ltb Sizes.STYLES (Layout.styles_in w + Layout.styles_in v)
    || (ltb Sizes.SHEET-IDS (Layout.ids_in w + Layout.ids_in v)
    || ltb Sizes.SHEET-ENTRIES (all_entries_in w + all_entries_in v)))

-- the source indexes of direct styles and of rules
abbrev pub indexes_of : Sheet → List ℕ
indexes_of s = map (λ d. d.source) s.styles ++ map (λ r. r.source) s.rules

-- "A pushed cascade adds the current index to each of its own"
abbrev pub shift_style : ℕ → Style → Style
shift_style k d = record { origin = d.origin; source = k + d.source; entries = d.entries }

abbrev pub shift_rule : ℕ → Rule → Rule
shift_rule k r = record { origin = r.origin; source = k + r.source; order = r.order; selector = r.selector; entries = r.entries }

-- "a push would use a source index over 65,535"
unfoldable pub indexes_over : List ℕ → List ℕ → Bool
indexes_over w v = not (at_most Sizes.SOURCE-INDEX (map (λ x. Layout.next_in w + x) (indexes_of (sheet_of v))))

unfoldable pub cascade_verdict : List ℕ → List ℕ → ℕ
cascade_verdict w v =
    first_of (check 11 (not (sheet_shape w)) ∷ check 11 (not (sheet_shape v)) ∷ check 2 (sums_over w v) ∷ check 7 (indexes_over w v) ∷ [])

unfoldable pub largest : List ℕ → ℕ
largest [] = 0
largest (a ∷ l) = cond (ltb a (largest l)) (largest l) a

-- "the next is the largest so made plus one, over direct styles and rules"; with neither it stays
abbrev pub next_after : ℕ → List ℕ → ℕ
next_after next [] = next
next_after next (x ∷ l) = next + largest (x ∷ l) + 1

unfoldable pub pushed_cascade : List ℕ → List ℕ → List ℕ
pushed_cascade w v =
    let next = Layout.next_in w in
    let s = sheet_of v in
    lay (map (shift_style next) s.styles) (map (shift_rule next) s.rules) (next_after next (indexes_of s)) w
