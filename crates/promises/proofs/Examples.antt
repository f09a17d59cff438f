-- P1 to P8 of 01, a single table under a single theorem. Assumes nothing.
use mathlib.Core.Path.{◌≡◌, refl, sym, ap, ◌∙◌, subst}
use mathlib.Core.List.Memᴰ
use mathlib.Core.List.{List, [], ◌∷◌, ◌++◌, map, append-nil, flat_map}
use Prim.Native.Nat.{ℕ, ◌+◌, ◌≤◌}
use native.Mathlib.Omega.{arith}
use lib.ListN.{length, get_or, drop, replicate, length-replicate}
use lib.Seq.{append_snoc}
use borrow.Author.Tests.{le-ltb}
use Rattle.theory.specs.Lists.{◌∈◌, ascends_from, member, contained, inserted, sort, select, at_most, sum_below, compare, total}
use Rattle.theory.specs.Paths.{child}
use Rattle.theory.specs.States.{Sheet, State, root, enter}
use Rattle.lent.specs.All.{all_below}
use Rattle.lent.specs.Refusals.{first_of, checks_below}
use Rattle.selector.specs.Tags.{Tags, tag_ok, step_matches}
use Rattle.selector.specs.Rows.{row_at, selector_of}
use Rattle.selector.specs.Checks.{selector_over, path_over, codes_over, subjects_off, path_verdict}
use Rattle.selector.specs.Diagnosing.{some_fit, other_errors, last_or, tried, judge, diagnose, diagnosis_of}
use Rattle.selector.specs.Weighing.{counts_of}
use Rattle.typed.specs.declared.SelectorInputs.{SelectorInputs}
use Rattle.typed.specs.Typed.{inputs_tags}
use Rattle.steps.specs.Steps.{step_tags, step_verdict, step_matching}
use Rattle.style.specs.Checks.{entries_over, kinds_over, properties_off}
use Rattle.style.specs.Entries.{entries_of}
use Rattle.sheet.specs.Layout
use Rattle.sheet.specs.Sheets as sheets
use Rattle.sheet.specs.Laying.{ids_held, emptied}
use Rattle.laid.proofs.Emptied.{zero_count, read_emptied, shape_emptied}
use Rattle.given.specs.Given.{selector_given, entries_given, rule_given, rules_given}
use Rattle.given.specs.Pushing.{empty_verdict, rules_over, rule_checks, group_verdict}
use Rattle.made.specs.Made.{Halves, Made, group}
use Rattle.made.specs.Pushed.{added}
use Rattle.made.proofs.Pushed.{group_pushed}
use Rattle.made.proofs.Calls.{some_made}
use Rattle.table.specs.Tables.{Table, selectors_of}
use Rattle.covered.specs.Covered.{Enters, Reached}
use Rattle.covered.specs.Covered.Reached.{root as is-root, child as is-child}
use Rattle.covered.specs.Rooms.{holds, held_along, Enough, Roomy, Proper, verdicts_along}
use Rattle.promises.specs.Walk as walk
use Rattle.promises.specs.Walk.{subject}
use Rattle.promises.specs.Examples.{listed_along, listed_after, sheet_with, listed_of, lent, answer, one_rule, table}
use Rattle.promises.proofs.Listed.{room_builds, room_suffices}
use Rattle.promises.proofs.Calls.{reached_accepted}
use Rattle.promises.proofs.WalkExample.{rules_on, lists}
use Rattle.promises.proofs.WalkSteps.{proper}

-- ---- P8: the sheet of one rule, a>b, is made

abbrev words : List ℕ
words = replicate Layout.SHEET-WORDS 0

room : Layout.SHEET-WORDS ≤ length words
room = omega (arith, length-replicate {A = ℕ} Layout.SHEET-WORDS 0)

new_fits : (v : List ℕ) → Layout.SHEET-WORDS ≤ length v → empty_verdict v ≡ 0
unfolding empty_verdict first_of
new_fits v h = rw (le-ltb (length v) Layout.SHEET-WORDS h)

-- no properties
halves : Halves []
halves k = omega arith

rule_fits : group_verdict (emptied words) 0 one_rule 1 ≡ 0
unfolding group_verdict first_of checks_below rules_over rule_checks selector_over codes_over entries_over kinds_over properties_off all_below at_most ascends_from sum_below selector_given selector_of row_at inserted sort ids_held total counts_of
rule_fits = rw (
  shape_emptied words room,
  zero_count words room 0 (omega arith),
  zero_count words room 2 (omega arith),
  zero_count words room 3 (omega arith),
  zero_count words room 5 (omega arith),
  zero_count words room 6 (omega arith),
)

is_made : Made (sheet_with one_rule 1)
is_made = group some_made 0 one_rule 1 halves rule_fits

abbrev selectors : Sheet Tags
selectors = (walk.step child 1 ∷ walk.step child 2 ∷ []) ∷ []

selectors_are : selectors_of (sheet_with one_rule 1) ≡ selectors
unfolding selectors_of rules_given rule_given selector_given selector_of entries_given entries_of row_at sum_below inserted sort
selectors_are =
    let all : List sheets.Rule = rules_given 0 (Layout.next_in (emptied words)) one_rule 1 in
    let next : ℕ = Layout.next_in (emptied words) + 1 in
    ap (λ (s : sheets.Sheet). map (λ (r : sheets.Rule). r.selector) s.rules) ((group_pushed (emptied words) 0 one_rule 1 halves rule_fits).sheet ∙ ap (λ (s : sheets.Sheet). added s next [] all) (read_emptied words room))

-- ---- the four states along c, a, b

abbrev path : List Tags
path = walk.typed 3 ∷ walk.typed 1 ∷ walk.typed 2 ∷ []

states_are : held_along selectors (root selectors ∷ []) (root selectors) path
    ≡ record { cursors = 0 ∷ []; matched = [] }
    ∷ record { cursors = []; matched = [] }
    ∷ record { cursors = 1 ∷ []; matched = [] }
    ∷ record { cursors = []; matched = 0 ∷ [] }
    ∷ []
unfolding held_along holds enter flat_map sort inserted step_matches tag_ok contained compare
states_are = refl

enough : Roomy (sheet_with one_rule 1) path lent
enough =
    subst (λ (all : List State). Enough all lent)
    (sym (ap (λ (s : Sheet Tags). held_along s (root s ∷ []) (root s) path) selectors_are ∙ states_are))
    (record { few = omega arith; states = omega arith; cursors = omega arith; matched = omega arith })

-- ---- what is listed where no entering is refused

listed_along_lem : {w : List ℕ} (xs : List SelectorInputs) {t : Table} {number stamp : ℕ} {before : List Tags} → Reached w t number stamp before
    → verdicts_along w t number stamp xs ≡ replicate (length xs) 0
    → (sheet : Sheet Tags) → selectors_of w ≡ sheet → listed_along w t number stamp xs ≡ 0 ∷ rules_on sheet (before ++ map inputs_tags xs)
unfolding listed_along verdicts_along
listed_along_lem [] {before = before} r e sheet s = rw (reached_accepted r, append-nil before) (ap (λ (l : List ℕ). 0 ∷ l) (lists sheet s r))
listed_along_lem {w} (x ∷ xs) {t = t} {number = number} {stamp = stamp} {before = before} r e sheet s =
    let v : Enters w t number stamp x = ap (λ (l : List ℕ). get_or l 0 0) e in
    rw v (listed_along_lem xs (is-child r x v) (ap (drop 1) e) sheet s ∙ ap (λ (l : List Tags). 0 ∷ rules_on sheet l) (append_snoc before (inputs_tags x) (map inputs_tags xs)))

abbrev subjects : List SelectorInputs
subjects = map subject (3 ∷ 1 ∷ 2 ∷ [])

tags_are : map inputs_tags subjects ≡ path
unfolding inputs_tags
tags_are = refl

all_proper : (x : SelectorInputs) → x ∈ subjects → Proper x
all_proper x m = let (n, _, e) = Memᴰ.of_map subject (3 ∷ 1 ∷ 2 ∷ []) m in subst Proper e (proper n)

rules_are : rules_on selectors path ≡ 0 ∷ []
unfolding select step_matches tag_ok contained
rules_are = refl

p8 : listed_of one_rule 1 7 0 lent (map subject (3 ∷ 1 ∷ 2 ∷ [])) ≡ 0 ∷ 0 ∷ []
unfolding listed_of listed_after
p8 =
    let fits : Roomy (sheet_with one_rule 1) (map inputs_tags subjects) lent = rw tags_are enough in
    let b = room_builds is_made subjects lent refl fits 0 (omega arith) in
    let v = room_suffices is_made subjects lent refl fits 0 (omega arith) 7 all_proper in
    rw (new_fits words room, rule_fits, b.1) (listed_along_lem subjects (is-root lent 7 0 b) v selectors selectors_are ∙ rw (tags_are, rules_are))

-- ---- THEOREM

pub examples : map (λ e. answer e.question) table ≡ map (λ e. e.expected) table
unfolding table ascends_from member contained inserted sort first_of all_below tag_ok step_matches row_at selector_over path_over codes_over subjects_off path_verdict some_fit other_errors last_or tried judge diagnose diagnosis_of step_tags inputs_tags step_verdict step_matching flat_map
examples = rw p8
