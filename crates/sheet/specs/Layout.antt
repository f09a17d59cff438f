-- Where each thing stands in a sheet's words. Assumes nothing.
use Rattle.std.specs.Prelude.{List, ℕ, ◌+◌, ◌*◌, get_or}

-- ---- the counts

-- Rules, their steps, the ids of all steps, the entries of all rules; direct styles, and the entries of all of these; the next source index.
-- Word 7 holds nothing
abbrev pub rules_in : List ℕ → ℕ
rules_in w = get_or w 0 0

abbrev pub steps_in : List ℕ → ℕ
steps_in w = get_or w 1 0

abbrev pub ids_in : List ℕ → ℕ
ids_in w = get_or w 2 0

abbrev pub entries_in : List ℕ → ℕ
entries_in w = get_or w 3 0

abbrev pub styles_in : List ℕ → ℕ
styles_in w = get_or w 4 0

abbrev pub style_entries_in : List ℕ → ℕ
style_entries_in w = get_or w 5 0

abbrev pub next_in : List ℕ → ℕ
next_in w = get_or w 6 0

-- ---- rows of rules: origin, source index, order, where its steps end, where its entries end

abbrev pub RULE-WORDS : ℕ
RULE-WORDS = 5

abbrev pub RULE-ORIGIN : ℕ
RULE-ORIGIN = 8

abbrev pub RULE-SOURCE : ℕ
RULE-SOURCE = 9

abbrev pub RULE-ORDER : ℕ
RULE-ORDER = 10

abbrev pub RULE-STEP-END : ℕ
RULE-STEP-END = 11

abbrev pub RULE-ENTRY-END : ℕ
RULE-ENTRY-END = 12

-- ---- rows of steps: a step's row as in path calls, its ids in order and each once, and then the combinator before it

abbrev pub STEP-WORDS : ℕ
STEP-WORDS = 23

abbrev pub STEP : ℕ
STEP = 1288

abbrev pub STEP-COMBINATOR : ℕ
STEP-COMBINATOR = 1310

-- where step s stands
abbrev pub step_place : ℕ → ℕ
step_place s = STEP + STEP-WORDS * s

-- ---- the entries of rules: their property ids, then their kinds, then their numbers, each with room for 4,096

abbrev pub ENTRY : ℕ
ENTRY = 48392

abbrev pub ENTRY-ROOM : ℕ
ENTRY-ROOM = 4096

-- ---- rows of direct styles: origin, source index, where its entries end

abbrev pub STYLE-WORDS : ℕ
STYLE-WORDS = 3

abbrev pub STYLE-ORIGIN : ℕ
STYLE-ORIGIN = 60680

abbrev pub STYLE-SOURCE : ℕ
STYLE-SOURCE = 60681

abbrev pub STYLE-ENTRY-END : ℕ
STYLE-ENTRY-END = 60682

-- ---- the entries of direct styles, likewise, with room for 2,048: 64 styles of 32

abbrev pub STYLE-ENTRY : ℕ
STYLE-ENTRY = 60872

abbrev pub STYLE-ENTRY-ROOM : ℕ
STYLE-ENTRY-ROOM = 2048

abbrev pub SHEET-WORDS : ℕ
SHEET-WORDS = 67016
