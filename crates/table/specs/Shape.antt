-- The shape of a table with its sheet: 01's row 11. Links between transitions are no part of it. Assumes nothing.
use Rattle.std.specs.Prelude.{Bool, ◌&&◌, List, [], ℕ, ◌+◌, ◌*◌, ◌/◌, ◌%◌, length, get_or, leb, ltb}
use Rattle.theory.specs.Sizes
use Rattle.theory.specs.Lists.{ascends, compare}
use Rattle.theory.specs.States.{rule, starts}
use Rattle.theory.specs.Cascade.{is_zero}
use Rattle.lent.specs.All.{all_below}
use Rattle.sheet.specs.Layout.{rules_in}
use Rattle.sheet.specs.Shape.{end_to_end, ends_at}
use Rattle.table.specs.Tables

-- ---- "a root other than build makes": there is one

unfoldable pub root_there : List ℕ → Bool
root_there head = leb 1 (Tables.states_in head)

-- ---- "counts past the room or the sizes"

-- "States (at most 512)
unfoldable pub states_fit : List ℕ → Bool
states_fit head = leb (Tables.states_in head) Sizes.STATES

-- .., cursors, matched numbers and cached transitions have the room that was lent."
unfoldable pub states_held : List ℕ → List ℕ → Bool
states_held head states = leb (Tables.STATE-WORDS * Tables.states_in head) (length states)

unfoldable pub cursors_held : List ℕ → List ℕ → Bool
cursors_held head cursors = leb (Tables.cursors_in head) (length cursors)

unfoldable pub matched_held : List ℕ → List ℕ → Bool
matched_held head matched = leb (Tables.matched_in head) (length matched)

unfoldable pub transitions_held : List ℕ → List ℕ → Bool
transitions_held head transitions = leb (Tables.TRANSITION-WORDS * Tables.transitions_in head) (length transitions)

-- "a subject's classes and pseudos 0 to 16 each"
unfoldable pub classes_fit : List ℕ → ℕ → Bool
classes_fit transitions k = leb (get_or transitions (Tables.subject_place k + 4) 0) Sizes.SUBJECT-IDS

unfoldable pub pseudos_fit : List ℕ → ℕ → Bool
pseudos_fit transitions k = leb (get_or transitions (Tables.subject_place k + 5) 0) Sizes.SUBJECT-IDS

-- ---- "a code out of range": the ranking, and flags other than 0 and 1

unfoldable pub ranking_fits : List ℕ → Bool
ranking_fits head = leb (Tables.ranking_in head) Sizes.RANKING

unfoldable pub type_flag_fits : List ℕ → ℕ → Bool
type_flag_fits transitions k = leb (get_or transitions (Tables.subject_place k) 0) 1

unfoldable pub part_flag_fits : List ℕ → ℕ → Bool
part_flag_fits transitions k = leb (get_or transitions (Tables.subject_place k + 2) 0) 1

-- ---- "a list not strictly ascending": a state's cursors, its matched rules; a cached subject's classes and pseudos

unfoldable pub cursors_ascend : List ℕ → List ℕ → ℕ → Bool
cursors_ascend states cursors k = ascends (Tables.cursors_at states cursors k)

unfoldable pub matched_ascend : List ℕ → List ℕ → ℕ → Bool
matched_ascend states matched k = ascends (Tables.matched_at states matched k)

unfoldable pub classes_ascend : List ℕ → ℕ → Bool
classes_ascend transitions k = ascends (Tables.subject_of transitions k).classes

unfoldable pub pseudos_ascend : List ℕ → ℕ → Bool
pseudos_ascend transitions k = ascends (Tables.subject_of transitions k).pseudos

-- ---- "a cursor, rule or state number that doesn't exist"

-- the cursor is at a step of a rule
unfoldable pub cursor_exists : List ℕ → ℕ → Bool
cursor_exists w c = ltb (c % 8) (length (rule (Tables.selectors_of w) (c / 8)))

unfoldable pub rule_exists : List ℕ → ℕ → Bool
rule_exists w r = ltb r (rules_in w)

unfoldable pub parent_exists : List ℕ → List ℕ → ℕ → Bool
parent_exists head transitions k = ltb (Tables.parent_at transitions k) (Tables.states_in head)

unfoldable pub child_exists : List ℕ → List ℕ → ℕ → Bool
child_exists head transitions k = ltb (Tables.child_at transitions k) (Tables.states_in head)

-- ---- "a root other than build makes": its lists

-- two lists are the same
abbrev pub same : List ℕ → List ℕ → Bool
same a b = is_zero (compare a b)

unfoldable pub root_cursors : List ℕ → List ℕ → List ℕ → Bool
root_cursors w states cursors = same (Tables.cursors_at states cursors 0) (starts 0 (Tables.selectors_of w))

unfoldable pub root_matched : List ℕ → List ℕ → Bool
root_matched states matched = same (Tables.matched_at states matched 0) []

-- ---- together; "lists not end to end" is `end_to_end` of each list, and `ends_at` of the last

unfoldable pub counts_fit : Tables.Table → Bool
counts_fit t =
    root_there t.head
    && (states_fit t.head
    && (ranking_fits t.head
    && (states_held t.head t.states
    && (cursors_held t.head t.cursors
    && (matched_held t.head t.matched
    && transitions_held t.head t.transitions)))))

-- state k
unfoldable pub state_fine : List ℕ → List ℕ → List ℕ → ℕ → Bool
state_fine states cursors matched k =
    end_to_end (Tables.cursor_ends states) k
    && (end_to_end (Tables.matched_ends states) k
    && (cursors_ascend states cursors k
    && matched_ascend states matched k))

-- transition k: the subject,
unfoldable pub subject_fine : List ℕ → ℕ → Bool
subject_fine transitions k =
    type_flag_fits transitions k
    && (part_flag_fits transitions k
    && (classes_fit transitions k
    && (pseudos_fit transitions k
    && (classes_ascend transitions k
    && pseudos_ascend transitions k))))

-- and the two states
unfoldable pub transition_fine : List ℕ → List ℕ → ℕ → Bool
transition_fine head transitions k = parent_exists head transitions k && (child_exists head transitions k && subject_fine transitions k)

unfoldable pub lists_meet : List ℕ → List ℕ → Bool
lists_meet head states =
    ends_at (Tables.cursor_ends states) (Tables.states_in head) (Tables.cursors_in head)
    && ends_at (Tables.matched_ends states) (Tables.states_in head) (Tables.matched_in head)

unfoldable pub states_fine : Tables.Table → Bool
states_fine t = all_below (Tables.states_in t.head) (state_fine t.states t.cursors t.matched) && lists_meet t.head t.states

unfoldable pub numbers_exist : List ℕ → Tables.Table → Bool
numbers_exist w t =
    all_below (Tables.cursors_in t.head) (λ i. cursor_exists w (get_or t.cursors i 0))
    && all_below (Tables.matched_in t.head) (λ i. rule_exists w (get_or t.matched i 0))

unfoldable pub root_built : List ℕ → Tables.Table → Bool
root_built w t = root_cursors w t.states t.cursors && root_matched t.states t.matched

-- The whole, for a sheet in shape
unfoldable pub table_shape : List ℕ → Tables.Table → Bool
table_shape w t =
    counts_fit t
    && (states_fine t
    && (numbers_exist w t
    && (all_below (Tables.transitions_in t.head) (transition_fine t.head t.transitions)
    && root_built w t)))
