-- Records 2 to 8 into a sheet, and when they are refused: 01, "House records" and its table. Assumes nothing.
use Rattle.std.specs.Prelude.{Bool, cond, true, false, not, ◌||◌, ◌&&◌, List, [], ◌∷◌, ℕ, ◌+◌, eqb, ltb}
use Rattle.theory.specs.Sizes
use Rattle.lent.specs.Refusals.{Check, check, first_of}
use Rattle.sheet.specs.Layout.{rules_in, ids_in, styles_in}
use Rattle.given.specs.Given.{Group}
use Rattle.given.specs.Pushing.{all_entries_in}
use Rattle.records.specs.declared.Record.{Record}
use Rattle.records.specs.Rows.{item_over}
use Rattle.gather.specs.Opened.{Open, nothing, direct, group, none, rule_count, entries_given, ids_given, last_of, last_row, with_rule, with_step, with_requirement, with_entry, close_verdict, closed}

-- ---- what is open

abbrev pub is_direct : Open → Bool
is_direct nothing = false
is_direct (direct o g) = true
is_direct (group o g) = false

abbrev pub is_group : Open → Bool
is_group nothing = false
is_group (direct o g) = false
is_group (group o g) = true

abbrev pub group_of : Open → Group
group_of nothing = none
group_of (direct o g) = g
group_of (group o g) = g

abbrev pub in_rule : Open → Bool
in_rule o = is_group o && ltb 0 (rule_count (group_of o))

abbrev pub in_step : Open → Bool
in_step o = in_rule o && ltb 0 (last_of (group_of o) 0)

-- how many entries the last style has: the direct one, or the last rule's
abbrev pub last_entries : Open → ℕ
last_entries o = cond (is_direct o) (entries_given (group_of o)) (last_of (group_of o) 2)

-- ---- "A record's own faults come first, in the order of refusals 10, 6, 2 (a count at the record that brings it over its size)": with the sheet w

-- "the ranking .. over 1"
abbrev pub sheet_faults : ℕ → List Check
sheet_faults ranking = check 6 (ltb Sizes.RANKING ranking) ∷ []

-- a direct style: "an origin rank is over 7"; "direct styles 0 to 64", the open one among them
abbrev pub direct_faults : List ℕ → Open → ℕ → List Check
direct_faults w o origin = check 6 (ltb Sizes.ORIGIN origin) ∷ check 2 (ltb Sizes.STYLES (styles_in w + cond (is_direct o) 1 0 + 1)) ∷ []

abbrev pub group_faults : ℕ → List Check
group_faults origin = check 6 (ltb Sizes.ORIGIN origin) ∷ []

-- "4 outside a group"; "Rules 0 to 256"
abbrev pub rule_faults : List ℕ → Open → List Check
rule_faults w o = check 10 (not (is_group o)) ∷ check 2 (ltb Sizes.RULES (rules_in w + rule_count (group_of o) + 1)) ∷ []

-- "5 outside a rule"; "0 child, 1 descendant; 0 at the first"; "steps in a selector 0 to 8"
abbrev pub step_faults : Open → ℕ → List Check
step_faults o code =
    check 10 (not (in_rule o))
    ∷ check 10 (ltb (cond (eqb (last_of (group_of o) 0) 0) 0 1) code)
    ∷ check 2 (ltb Sizes.STEPS (last_of (group_of o) 0 + 1))
    ∷ []

-- "6 without a step"; "which .. 3 pseudo"; "required classes and required pseudos 0 to 8 each as given"; "required ids 0 to 8,192, .. as held"
abbrev pub requirement_faults : List ℕ → Open → ℕ → ℕ → List Check
requirement_faults w o which id =
    check 10 (not (in_step o))
    ∷ check 10 (ltb 3 which)
    ∷ check 2 (item_over Sizes.STEP-IDS which (last_row (group_of o)))
    ∷ check 2 (ltb Sizes.SHEET-IDS (ids_in w + ids_given (with_requirement which id (group_of o))))
    ∷ []

-- "7 outside a direct style or rule"; an entry kind over 3; "entries in a style 0 to 32"; "In a whole sheet: .. entries 0 to 4,096"
abbrev pub entry_faults : List ℕ → Open → ℕ → List Check
entry_faults w o kind =
    check 10 (not (is_direct o || in_rule o))
    ∷ check 10 (ltb Sizes.ENTRY-KIND kind)
    ∷ check 2 (ltb Sizes.STYLE-ENTRIES (last_entries o + 1))
    ∷ check 2 (ltb Sizes.SHEET-ENTRIES (all_entries_in w + entries_given (group_of o) + 1))
    ∷ []

-- ---- one record after the first

-- "then the style or group that a 2, 3 or 8 closes is pushed, or refused there"
abbrev pub closes : Record → Bool
closes r = eqb r.kind 2 || (eqb r.kind 3 || eqb r.kind 8)

-- of these, its own faults
abbrev pub closing_fault : List ℕ → Open → Record → ℕ
closing_fault w o r =
    cond (eqb r.kind 2) (first_of (direct_faults w o r.first))
    (cond (eqb r.kind 3) (first_of (group_faults r.first))
    0)

-- first its own fault, then what is refused there
unfoldable pub closing_verdict : ℕ → List ℕ → Open → ℕ
closing_verdict fault w o = cond (eqb fault 0) (close_verdict w o) fault

-- of 4 to 7; "1 again" and "9 to 12 before it" are misplaced
unfoldable pub added_fault : List ℕ → Open → Record → ℕ
added_fault w o r =
    cond (eqb r.kind 4) (first_of (rule_faults w o))
    (cond (eqb r.kind 5) (first_of (step_faults o r.first))
    (cond (eqb r.kind 6) (first_of (requirement_faults w o r.first r.second))
    (cond (eqb r.kind 7) (first_of (entry_faults w o r.second))
    10)))

unfoldable pub making_verdict : List ℕ → Open → Record → ℕ
making_verdict w o r = cond (closes r) (closing_verdict (closing_fault w o r) w o) (added_fault w o r)

-- ---- what an accepted record leaves

unfoldable pub sheet_after : List ℕ → Open → Record → List ℕ
sheet_after w o r = cond (closes r) (closed w o) w

-- into the open group
abbrev pub in_group : (Group → Group) → Open → Open
in_group f nothing = nothing
in_group f (direct o g) = direct o g
in_group f (group o g) = group o (f g)

unfoldable pub added_to : Open → Record → Open
added_to o r =
    cond (eqb r.kind 4) (in_group with_rule o)
    (cond (eqb r.kind 5) (in_group (with_step r.first) o)
    (cond (eqb r.kind 6) (in_group (with_requirement r.first r.second) o)
    (cond (eqb r.kind 7) (with_entry r.first r.second r.third o)
    o)))

unfoldable pub open_after : Open → Record → Open
open_after o r =
    cond (eqb r.kind 2) (direct r.first none)
    (cond (eqb r.kind 3) (group r.first none)
    (cond (eqb r.kind 8) nothing
    (added_to o r)))
