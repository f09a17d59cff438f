-- A lent table, and the states and transitions that its words hold: 01, "States". Assumes nothing.
use Rattle.std.specs.Prelude.{List, map, ℕ, zero, suc, ◌+◌, ◌*◌, get_or, Option, Some, None}
use Rattle.theory.specs.States.{Sheet, State}
use Rattle.lent.specs.Pool.{ends_in, list_at}
use Rattle.selector.specs.Tags.{Tags}
use Rattle.selector.specs.Rows.{row_at}
use Rattle.sheet.specs.Sheets.{sheet_of}

-- The selectors of a sheet's rules, by rule number
unfoldable pub selectors_of : List ℕ → Sheet Tags
selectors_of w = map (λ r. r.selector) (sheet_of w).rules

-- The five lent pieces
pub record Table : Type 0 where
  pub head : List ℕ
  pub states : List ℕ
  pub cursors : List ℕ
  pub matched : List ℕ
  pub transitions : List ℕ

abbrev pub table : List ℕ → List ℕ → List ℕ → List ℕ → List ℕ → Table
table h s c m t = record { head = h; states = s; cursors = c; matched = m; transitions = t }

-- ---- the head: stamp, ranking, and how many states, cursors, matched numbers and transitions there are. Words 6 and 7 hold nothing

abbrev pub stamp_in : List ℕ → ℕ
stamp_in head = get_or head 0 0

abbrev pub ranking_in : List ℕ → ℕ
ranking_in head = get_or head 1 0

abbrev pub states_in : List ℕ → ℕ
states_in head = get_or head 2 0

abbrev pub cursors_in : List ℕ → ℕ
cursors_in head = get_or head 3 0

abbrev pub matched_in : List ℕ → ℕ
matched_in head = get_or head 4 0

abbrev pub transitions_in : List ℕ → ℕ
transitions_in head = get_or head 5 0

-- ---- rows of states: where its cursors end, where its matched rules end, and the link to its first transition

abbrev pub STATE-WORDS : ℕ
STATE-WORDS = 3

abbrev pub CURSOR-END : ℕ
CURSOR-END = 0

abbrev pub MATCHED-END : ℕ
MATCHED-END = 1

abbrev pub FIRST-LINK : ℕ
FIRST-LINK = 2

abbrev pub cursor_ends : List ℕ → ℕ → ℕ
cursor_ends states = ends_in states CURSOR-END STATE-WORDS

abbrev pub matched_ends : List ℕ → ℕ → ℕ
matched_ends states = ends_in states MATCHED-END STATE-WORDS

abbrev pub cursors_at : List ℕ → List ℕ → ℕ → List ℕ
cursors_at states cursors k = list_at (cursor_ends states) cursors k

abbrev pub matched_at : List ℕ → List ℕ → ℕ → List ℕ
matched_at states matched k = list_at (matched_ends states) matched k

-- The state that has number k
abbrev pub state_at : Table → ℕ → State
state_at t k = record { cursors = cursors_at t.states t.cursors k; matched = matched_at t.states t.matched k }

-- A link is a transition's number plus one; 0 links to none
abbrev pub first_link : List ℕ → ℕ → ℕ
first_link states k = ends_in states FIRST-LINK STATE-WORDS k

-- the transition that a link leads to
unfoldable pub linked : ℕ → Option ℕ
linked zero = None
linked (suc k) = Some k

-- ---- rows of transitions: the parent, the child, the link to the parent's next one, and the subject's row

abbrev pub TRANSITION-WORDS : ℕ
TRANSITION-WORDS = 41

abbrev pub PARENT : ℕ
PARENT = 0

abbrev pub CHILD : ℕ
CHILD = 1

abbrev pub NEXT-LINK : ℕ
NEXT-LINK = 2

abbrev pub SUBJECT : ℕ
SUBJECT = 3

abbrev pub parent_at : List ℕ → ℕ → ℕ
parent_at transitions k = ends_in transitions PARENT TRANSITION-WORDS k

abbrev pub child_at : List ℕ → ℕ → ℕ
child_at transitions k = ends_in transitions CHILD TRANSITION-WORDS k

abbrev pub next_link : List ℕ → ℕ → ℕ
next_link transitions k = ends_in transitions NEXT-LINK TRANSITION-WORDS k

-- where the subject's row of transition k stands
abbrev pub subject_place : ℕ → ℕ
subject_place k = SUBJECT + TRANSITION-WORDS * k

-- the subject of transition k
abbrev pub subject_of : List ℕ → ℕ → Tags
subject_of transitions k = row_at 16 transitions (subject_place k)
