-- There is a made sheet that holds what 01's `walk` example pushes. Assumes nothing.
use mathlib.Core.Path.{◌≡◌, ap, ◌∙◌}
use mathlib.Core.List.{List, [], ◌∷◌, ◌++◌, map, flat_map}
use Prim.Native.Nat.{ℕ, zero, suc, ◌+◌, ◌≤◌}
use native.Mathlib.Omega.{arith}
use lib.ListN.{length, replicate, length-replicate}
use Rattle.theory.specs.Lists.{ascends_from, inserted, sort, at_most, sum_below, total}
use Rattle.lent.specs.All.{all_below}
use Rattle.lent.specs.Refusals.{first_of, checks_below}
use Rattle.selector.specs.Rows.{row_at, selector_of}
use Rattle.selector.specs.Weighing.{counts_of}
use Rattle.selector.specs.Checks.{selector_over, codes_over}
use Rattle.style.specs.Checks.{entries_over, kinds_over, properties_off}
use Rattle.style.specs.Entries.{entries_of}
use Rattle.sheet.specs.Layout
use Rattle.sheet.specs.Sheets.{Style, Rule, Sheet, sheet_of}
use Rattle.sheet.specs.Laying.{ids_held, emptied}
use Rattle.laid.proofs.Frame.{Sizes, rules_after, ids_after, entries_after, style_entries_after, next_after_lem}
use Rattle.laid.proofs.Emptied.{zero_count, read_emptied, shape_emptied}
use Rattle.given.specs.Given.{style_given, Group, given, selector_given, entries_given, rule_given, rules_given}
use Rattle.given.specs.Pushing.{style_push_verdict, pushed_style, rules_over, rule_checks, group_verdict, pushed_group}
use Rattle.given.proofs.Accepted.{style_accepted}
use Rattle.made.specs.Made.{Halves, Made, style, group}
use Rattle.made.specs.Pushed.{added}
use Rattle.made.proofs.Accepting.{style_ready}
use Rattle.made.proofs.Pushed.{style_pushed, group_pushed}
use Rattle.made.proofs.Calls.{some_made}
use Rattle.table.specs.Tables.{selectors_of}
use Rattle.promises.specs.Walk.{walk_sheet, walk}

-- "direct 0 with entry 1, 0, 10"
halves_style : Halves (1 ∷ [])
halves_style zero = omega arith
halves_style (suc k) = omega arith

-- "group 0; rule with step type 5 and entry 1, 0, 20; rule with step type 1, descendant step type 5 and entries 1, 0, 30 and 2, 0, 40"
abbrev row : ℕ → List ℕ
row n = 1 ∷ n ∷ replicate 20 0

abbrev rules : Group
rules = given (1 ∷ 0 ∷ 1 ∷ 2 ∷ 1 ∷ 2 ∷ []) (row 5 ++ row 1 ++ row 5) (1 ∷ []) (1 ∷ 1 ∷ 2 ∷ []) (0 ∷ 0 ∷ 0 ∷ []) (20 ∷ 30 ∷ 40 ∷ [])

halves_rules : Halves (1 ∷ 1 ∷ 2 ∷ [])
halves_rules zero = omega arith
halves_rules (suc zero) = omega arith
halves_rules (suc (suc zero)) = omega arith
halves_rules (suc (suc (suc k))) = omega arith

module _ (v : List ℕ) (room : Layout.SHEET-WORDS ≤ length v) where
  style_fits : style_push_verdict (emptied v) 0 (1 ∷ []) (0 ∷ []) (10 ∷ []) 1 ≡ 0
  unfolding style_push_verdict first_of entries_over kinds_over properties_off at_most ascends_from
  style_fits = rw (
    shape_emptied v room,
    zero_count v room 3 (omega arith),
    zero_count v room 4 (omega arith),
    zero_count v room 5 (omega arith),
    zero_count v room 6 (omega arith),
  )

  abbrev styled : List ℕ
  styled = pushed_style (emptied v) 0 (1 ∷ []) (0 ∷ []) (10 ∷ []) 1

  -- ---- the counts after the style

  sizes : Sizes (emptied v) (style_given 0 (Layout.next_in (emptied v)) (1 ∷ []) (0 ∷ []) (10 ∷ []) 1 ∷ []) []
  sizes = (style_ready (style_accepted (emptied v) (1 ∷ []) (0 ∷ []) (10 ∷ []) 1 0 style_fits) halves_style).sizes

  no_rules : Layout.rules_in styled ≡ 0
  unfolding pushed_style
  no_rules = rules_after _ sizes ∙ rw (zero_count v room 0 (omega arith))

  no_ids : Layout.ids_in styled ≡ 0
  unfolding pushed_style ids_held total flat_map
  no_ids = ids_after _ sizes ∙ rw (zero_count v room 2 (omega arith))

  no_entries : Layout.entries_in styled ≡ 0
  unfolding pushed_style flat_map
  no_entries = entries_after _ sizes ∙ rw (zero_count v room 3 (omega arith))

  one_entry : Layout.style_entries_in styled ≡ 1
  unfolding pushed_style flat_map entries_of
  one_entry = style_entries_after _ sizes ∙ rw (zero_count v room 5 (omega arith))

  next_one : Layout.next_in styled ≡ 1
  unfolding pushed_style
  next_one = next_after_lem _ sizes ∙ rw (zero_count v room 6 (omega arith))

  -- ---- the group

  group_fits : group_verdict styled 0 rules 2 ≡ 0
  unfolding group_verdict first_of checks_below rules_over rule_checks selector_over codes_over entries_over kinds_over properties_off all_below at_most ascends_from sum_below selector_given selector_of row_at inserted sort ids_held total counts_of
  group_fits = rw ((style_pushed (emptied v) 0 (1 ∷ []) (0 ∷ []) (10 ∷ []) 1 halves_style style_fits).shape, no_rules, no_ids, no_entries, one_entry, next_one)

  abbrev whole : List ℕ
  whole = pushed_group styled 0 rules 2

  whole_sheet : sheet_of whole ≡ walk_sheet
  unfolding rules_given rule_given selector_given selector_of entries_given entries_of row_at sum_below inserted sort
  whole_sheet =
      let one : Style = style_given 0 (Layout.next_in (emptied v)) (1 ∷ []) (0 ∷ []) (10 ∷ []) 1 in
      let two : List Rule = rules_given 0 (Layout.next_in styled) rules 2 in
      (group_pushed styled 0 rules 2 halves_rules group_fits).sheet
      ∙ ap (λ (s : Sheet). added s (Layout.next_in styled + 1) [] two) (style_pushed (emptied v) 0 (1 ∷ []) (0 ∷ []) (10 ∷ []) 1 halves_style style_fits).sheet
      ∙ ap (λ (s : Sheet). added (added s (Layout.next_in (emptied v) + 1) (one ∷ []) []) (Layout.next_in styled + 1) [] two) (read_emptied v room)
      ∙ rw (next_one, zero_count v room 6 (omega arith))

pub walk_selectors : (w : List ℕ) → sheet_of w ≡ walk_sheet → selectors_of w ≡ walk
unfolding selectors_of
walk_selectors w e = ap (λ (s : Sheet). map (λ (r : Rule). r.selector) s.rules) e

pub walk_made : (w : List ℕ) × Made w × (sheet_of w ≡ walk_sheet) × (selectors_of w ≡ walk)
walk_made =
    let v : List ℕ = replicate Layout.SHEET-WORDS 0 in
    let room : Layout.SHEET-WORDS ≤ length v = omega (arith, length-replicate {A = ℕ} Layout.SHEET-WORDS 0) in (
      whole v room,
      group (style some_made 0 (1 ∷ []) (0 ∷ []) (10 ∷ []) 1 halves_style (style_fits v room)) 0 rules 2 halves_rules (group_fits v room),
      whole_sheet v room,
      walk_selectors (whole v room) (whole_sheet v room),
    )
