-- The shape of a sheet: 01's row 11. Assumes nothing.
use Rattle.std.specs.Prelude.{Bool, true, ◌&&◌, cond, List, ℕ, ◌+◌, ◌-◌, ◌*◌, length, get_or, drop, leb, ltb, eqb}
use Rattle.theory.specs.Sizes
use Rattle.theory.specs.Lists.{ascends, at_most, sum_below}
use Rattle.lent.specs.All.{all_below}
use Rattle.lent.specs.Pool.{ends_in, start_of, list_at}
use Rattle.selector.specs.Rows.{row_at, words_from}
use Rattle.sheet.specs.Layout
use Rattle.sheet.specs.Sheets.{rule_step_ends, rule_entry_ends, style_entry_ends}

-- "a sheet's room under its sizes"
unfoldable pub room_enough : List ℕ → Bool
room_enough w = leb Layout.SHEET-WORDS (length w)

-- "counts past the room or the sizes": 256 rules,
unfoldable pub rules_fit : List ℕ → Bool
rules_fit w = leb (Layout.rules_in w) Sizes.RULES

-- 8 steps each,
unfoldable pub steps_fit : List ℕ → Bool
steps_fit w = leb (Layout.steps_in w) (Sizes.RULES * Sizes.STEPS)

-- 8,192 ids,
unfoldable pub ids_fit : List ℕ → Bool
ids_fit w = leb (Layout.ids_in w) Sizes.SHEET-IDS

-- the next source index at most 65,536,
unfoldable pub next_fits : List ℕ → Bool
next_fits w = leb (Layout.next_in w) Sizes.NEXT-INDEX

-- 64 direct styles,
unfoldable pub styles_fit : List ℕ → Bool
styles_fit w = leb (Layout.styles_in w) Sizes.STYLES

-- of 32 entries each,
unfoldable pub style_entries_fit : List ℕ → Bool
style_entries_fit w = leb (Layout.style_entries_in w) (Sizes.STYLES * Sizes.STYLE-ENTRIES)

-- and 4,096 entries in the whole sheet
unfoldable pub entries_fit : List ℕ → Bool
entries_fit w = leb (Layout.entries_in w + Layout.style_entries_in w) Sizes.SHEET-ENTRIES

unfoldable pub rule_counts_fit : List ℕ → Bool
rule_counts_fit w = rules_fit w && (steps_fit w && (ids_fit w && next_fits w))

unfoldable pub style_counts_fit : List ℕ → Bool
style_counts_fit w = styles_fit w && (style_entries_fit w && entries_fit w)

-- "lists not end to end": list k ends at or after its start;
unfoldable pub end_to_end : (ℕ → ℕ) → ℕ → Bool
end_to_end ends k = leb (start_of ends k) (ends k)

-- and it has at most `size` elements
unfoldable pub not_longer : (ℕ → ℕ) → ℕ → ℕ → Bool
not_longer ends size k = leb (ends k - start_of ends k) size

unfoldable pub list_fits : (ℕ → ℕ) → ℕ → ℕ → Bool
list_fits ends size k = end_to_end ends k && not_longer ends size k

-- "a code out of range": an origin rank over 7; and a source index over 65,535
unfoldable pub origin_fits : List ℕ → ℕ → ℕ → ℕ → Bool
origin_fits w column stride k = leb (ends_in w column stride k) Sizes.ORIGIN

unfoldable pub source_fits : List ℕ → ℕ → ℕ → ℕ → Bool
source_fits w column stride k = leb (ends_in w column stride k) Sizes.SOURCE-INDEX

-- "a list not strictly ascending": the property ids of list k
unfoldable pub properties_ascend : List ℕ → ℕ → (ℕ → ℕ) → ℕ → Bool
properties_ascend w pool ends k = ascends (list_at ends (drop pool w) k)

-- the combinator word of a rule's first step is 0
unfoldable pub first_untied : List ℕ → ℕ → Bool
first_untied w r =
    let first = start_of (rule_step_ends w) r in
    cond (ltb first (rule_step_ends w r)) (eqb (ends_in w Layout.STEP-COMBINATOR Layout.STEP-WORDS first) 0) true

unfoldable pub rule_lists_fit : List ℕ → ℕ → Bool
rule_lists_fit w r =
    list_fits (rule_step_ends w) Sizes.STEPS r
    && (list_fits (rule_entry_ends w) Sizes.STYLE-ENTRIES r
    && (first_untied w r
    && properties_ascend w Layout.ENTRY (rule_entry_ends w) r))

unfoldable pub rule_fine : List ℕ → ℕ → Bool
rule_fine w r =
    origin_fits w Layout.RULE-ORIGIN Layout.RULE-WORDS r
    && (source_fits w Layout.RULE-SOURCE Layout.RULE-WORDS r
    && rule_lists_fit w r)

unfoldable pub style_fine : List ℕ → ℕ → Bool
style_fine w d =
    origin_fits w Layout.STYLE-ORIGIN Layout.STYLE-WORDS d
    && (source_fits w Layout.STYLE-SOURCE Layout.STYLE-WORDS d
    && (list_fits (style_entry_ends w) Sizes.STYLE-ENTRIES d
    && properties_ascend w Layout.STYLE-ENTRY (style_entry_ends w) d))

-- of step s: a flag is 0 or 1;
unfoldable pub type_flag_fits : List ℕ → ℕ → Bool
type_flag_fits w s = leb (get_or w (Layout.step_place s) 0) 1

unfoldable pub part_flag_fits : List ℕ → ℕ → Bool
part_flag_fits w s = leb (get_or w (Layout.step_place s + 2) 0) 1

-- at most 8 classes
unfoldable pub classes_fit : List ℕ → ℕ → Bool
classes_fit w s = leb (get_or w (Layout.step_place s + 4) 0) Sizes.STEP-IDS

-- and 8 pseudos;
unfoldable pub pseudos_fit : List ℕ → ℕ → Bool
pseudos_fit w s = leb (get_or w (Layout.step_place s + 5) 0) Sizes.STEP-IDS

-- both ascending;
unfoldable pub classes_ascend : List ℕ → ℕ → Bool
classes_ascend w s = ascends (row_at 8 w (Layout.step_place s)).classes

unfoldable pub pseudos_ascend : List ℕ → ℕ → Bool
pseudos_ascend w s = ascends (row_at 8 w (Layout.step_place s)).pseudos

-- a combinator code at most 1
unfoldable pub combinator_fits : List ℕ → ℕ → Bool
combinator_fits w s = leb (ends_in w Layout.STEP-COMBINATOR Layout.STEP-WORDS s) Sizes.COMBINATOR

unfoldable pub step_fine : List ℕ → ℕ → Bool
step_fine w s =
    type_flag_fits w s
    && (part_flag_fits w s
    && (classes_fit w s
    && (pseudos_fit w s
    && (classes_ascend w s
    && (pseudos_ascend w s
    && combinator_fits w s)))))

-- of the n entries of a pool: property words at most 65,535,
unfoldable pub properties_fit : List ℕ → ℕ → ℕ → Bool
properties_fit w base n = at_most Sizes.PROPERTY-ID (words_from w base n)

-- kinds at most 3
unfoldable pub kinds_fit : List ℕ → ℕ → ℕ → ℕ → Bool
kinds_fit w base room n = at_most Sizes.ENTRY-KIND (words_from w (base + room) n)

unfoldable pub pool_fits : List ℕ → ℕ → ℕ → ℕ → Bool
pool_fits w base room n = properties_fit w base n && kinds_fit w base room n

-- the ids of step s
abbrev pub ids_at : List ℕ → ℕ → ℕ
ids_at w s = get_or w (Layout.step_place s + 4) 0 + get_or w (Layout.step_place s + 5) 0

-- each count of what lists hold is where the last one ends,
unfoldable pub ends_at : (ℕ → ℕ) → ℕ → ℕ → Bool
ends_at ends n count = eqb (start_of ends n) count

-- and the count of ids is their sum
unfoldable pub ids_meet : List ℕ → Bool
ids_meet w = eqb (sum_below (ids_at w) (Layout.steps_in w)) (Layout.ids_in w)

unfoldable pub ends_meet : List ℕ → Bool
ends_meet w =
    ends_at (rule_step_ends w) (Layout.rules_in w) (Layout.steps_in w)
    && (ends_at (rule_entry_ends w) (Layout.rules_in w) (Layout.entries_in w)
    && (ends_at (style_entry_ends w) (Layout.styles_in w) (Layout.style_entries_in w)
    && ids_meet w))

unfoldable pub counts_fit : List ℕ → Bool
counts_fit w = room_enough w && (rule_counts_fit w && style_counts_fit w)

unfoldable pub rows_fine : List ℕ → Bool
rows_fine w =
    all_below (Layout.rules_in w) (rule_fine w)
    && (all_below (Layout.steps_in w) (step_fine w)
    && all_below (Layout.styles_in w) (style_fine w))

unfoldable pub pools_fit : List ℕ → Bool
pools_fit w =
    pool_fits w Layout.ENTRY Layout.ENTRY-ROOM (Layout.entries_in w)
    && pool_fits w Layout.STYLE-ENTRY Layout.STYLE-ENTRY-ROOM (Layout.style_entries_in w)

-- The whole
unfoldable pub sheet_shape : List ℕ → Bool
sheet_shape w = counts_fit w && (rows_fine w && (pools_fit w && ends_meet w))
