-- What build and entering do to a table: 01, "States". Everything is total: past an end stands 0, and a store there is none. Assumes nothing.
use Rattle.std.specs.Prelude.{Bool, true, false, ◌&&◌, not, cond, List, [], ◌∷◌, ℕ, zero, suc, ◌+◌, ◌-◌, ◌*◌, length, set, leb, ltb, eqb}
use Rattle.std.proofs.Math.Option.{Option, none, some}
use Rattle.std.proofs.lemmas.List.Edits.{sets}
use Rattle.theory.specs.Sizes
use Rattle.theory.specs.States.{State, starts, enter}
use Rattle.lent.specs.Pool.{address_of}
use Rattle.selector.specs.Tags.{Tags, step_matches}
use Rattle.selector.specs.Rows.{row_at}
use Rattle.table.specs.Tables
use Rattle.table.specs.Shape.{same}

-- ---- "The root holds a cursor at step 0 of every rule with steps, and no matches."

abbrev pub roots_of : List ℕ → List ℕ
roots_of w = starts 0 (Tables.selectors_of w)

-- "the root .. lacks a state place .., cursor room or matched room": it has no matched numbers
unfoldable pub root_lacks_room : List ℕ → List ℕ → List ℕ → Bool
root_lacks_room w states cursors = not (leb Tables.STATE-WORDS (length states) && leb (length (roots_of w)) (length cursors))

-- stamp and ranking kept, one state, nothing cached
abbrev pub built_head : List ℕ → ℕ → ℕ → ℕ → List ℕ
built_head head stamp ranking roots = sets head 0 (stamp ∷ ranking ∷ 1 ∷ roots ∷ 0 ∷ 0 ∷ [])

unfoldable pub built : List ℕ → ℕ → ℕ → Tables.Table → Tables.Table
built w stamp ranking t =
    let roots = roots_of w in
    Tables.table (built_head t.head stamp ranking (length roots)) (sets t.states 0 (length roots ∷ 0 ∷ 0 ∷ [])) (sets t.cursors 0 roots) t.matched t.transitions

-- ---- equal subjects: a tag that isn't set has no number, and words past the counts are no ids

unfoldable pub same_tag : Option ℕ → Option ℕ → Bool
same_tag none none = true
same_tag none (some b) = false
same_tag (some a) none = false
same_tag (some a) (some b) = eqb a b

unfoldable pub same_subject : Tags → Tags → Bool
same_subject a b = same_tag a.type b.type && (same_tag a.part b.part && (same a.classes b.classes && same a.pseudos b.pseudos))

-- ---- cached transitions: "the first of equal .. transitions counting"

-- a link to one of `count` transitions
unfoldable pub leads : ℕ → ℕ → Bool
leads count l = ltb 0 l && leb l count

-- transition k is of the parent p and the subject x
unfoldable pub is_hit : List ℕ → ℕ → Tags → ℕ → Bool
is_hit transitions p x k = eqb (Tables.parent_at transitions k) p && same_subject (Tables.subject_of transitions k) x

-- along the chain from link l, over at most `left` transitions: the link to the first that is a hit; 0 if none is
unfoldable pub cached_from : List ℕ → ℕ → ℕ → Tags → ℕ → ℕ → ℕ
cached_from transitions count p x l zero = 0
cached_from transitions count p x l (suc left) =
    cond (leads count l) (cond (is_hit transitions p x (l - 1)) l (cached_from transitions count p x (Tables.next_link transitions (l - 1)) left)) 0

-- A cached transition is found along the parent's own chain
unfoldable pub cached : List ℕ → List ℕ → List ℕ → ℕ → Tags → ℕ
cached head states transitions p x =
    cached_from transitions (Tables.transitions_in head) p x (Tables.first_link states p) (Tables.transitions_in head)

-- ---- "An equal state already held is reused; otherwise it gets the next number."

-- the first number from k on that passes, of n numbers; the one past them if none does
unfoldable pub first_from : (ℕ → Bool) → ℕ → ℕ → ℕ
first_from p k zero = k
first_from p k (suc n) = cond (p k) k (first_from p (k + 1) n)

abbrev pub same_state : State → State → Bool
same_state a b = same a.cursors b.cursors && same a.matched b.matched

unfoldable pub is_state : List ℕ → List ℕ → List ℕ → State → ℕ → Bool
is_state states cursors matched s k = same_state (record { cursors = Tables.cursors_at states cursors k; matched = Tables.matched_at states matched k }) s

-- "the first of equal .. states": its number, or the next one if none is held
unfoldable pub number_for : List ℕ → List ℕ → List ℕ → ℕ → State → ℕ
number_for states cursors matched n s = first_from (is_state states cursors matched s) 0 n

-- ---- a new state

-- so many numbers more have room, and where they end is a u32
abbrev pub fits : ℕ → ℕ → ℕ → Bool
fits room used more = leb (used + more) room && ltb (used + more) 4294967296

-- "a state place (none counts past 512), cursor room or matched room"
unfoldable pub room_for : List ℕ → ℕ → ℕ → ℕ → State → Bool
room_for head states cursors matched s =
    ltb (Tables.states_in head) Sizes.STATES
    && (leb (Tables.STATE-WORDS * (Tables.states_in head + 1)) states
    && (fits cursors (Tables.cursors_in head) (length s.cursors)
    && fits matched (Tables.matched_in head) (length s.matched)))

abbrev pub grown_head : List ℕ → State → List ℕ
grown_head head s = sets head 2 ((Tables.states_in head + 1) ∷ (Tables.cursors_in head + length s.cursors) ∷ (Tables.matched_in head + length s.matched) ∷ [])

abbrev pub grown_states : List ℕ → List ℕ → State → List ℕ
grown_states head states s =
    sets states (Tables.STATE-WORDS * Tables.states_in head) ((Tables.cursors_in head + length s.cursors) ∷ (Tables.matched_in head + length s.matched) ∷ 0 ∷ [])

-- the state after the others
unfoldable pub grown : Tables.Table → State → Tables.Table
grown t s =
    Tables.table (grown_head t.head s) (grown_states t.head t.states s) (sets t.cursors (Tables.cursors_in t.head) s.cursors) (sets t.matched (Tables.matched_in t.head) s.matched) t.transitions

-- ---- a new transition: "An accepted entering keeps its transition if not yet held and there is room."

-- one more has room, and its link is a u32
unfoldable pub transition_fits : ℕ → ℕ → Bool
transition_fits n room = ltb n 4294967295 && leb (Tables.TRANSITION-WORDS * (n + 1)) room

-- along the chain from link l, over at most `left` transitions more: the last link
unfoldable pub last_from : List ℕ → ℕ → ℕ → ℕ → ℕ
last_from transitions count l zero = l
last_from transitions count l (suc left) =
    cond (leads count (Tables.next_link transitions (l - 1))) (last_from transitions count (Tables.next_link transitions (l - 1)) left) l

-- its row, after the others
abbrev pub with_row : List ℕ → ℕ → ℕ → ℕ → List ℕ → List ℕ
with_row transitions n p child row = sets transitions (Tables.TRANSITION-WORDS * n) (p ∷ child ∷ 0 ∷ row)

-- and it is hooked on to the parent's chain: to its last transition, or to the state if it has none
abbrev pub linked_state : List ℕ → ℕ → ℕ → List ℕ
linked_state states p n = set states (address_of Tables.FIRST-LINK Tables.STATE-WORDS p) (n + 1)

abbrev pub linked_last : List ℕ → ℕ → ℕ → List ℕ
linked_last transitions last n = set transitions (address_of Tables.NEXT-LINK Tables.TRANSITION-WORDS (last - 1)) (n + 1)

unfoldable pub hooked : Tables.Table → ℕ → ℕ → List ℕ → Tables.Table
hooked t p child row =
    let n = Tables.transitions_in t.head in
    let first = Tables.first_link t.states p in
    let head = set t.head 5 (n + 1) in
    let rows = with_row t.transitions n p child row in
    cond (leads n first)
    (Tables.table head t.states t.cursors t.matched (linked_last rows (last_from t.transitions n first (n - 1)) n))
    (Tables.table head (linked_state t.states p n) t.cursors t.matched rows)

unfoldable pub kept : Tables.Table → ℕ → ℕ → List ℕ → Tables.Table
kept t p child row = cond (transition_fits (Tables.transitions_in t.head) (length t.transitions)) (hooked t p child row) t

-- ---- entering the subject of a row under the state p

abbrev pub next_state : List ℕ → Tables.Table → ℕ → Tags → State
next_state w t p x = enter step_matches (Tables.selectors_of w) (Tables.state_at t p) x

abbrev pub cached_in : Tables.Table → ℕ → Tags → ℕ
cached_in t p x = cached t.head t.states t.transitions p x

abbrev pub number_in : Tables.Table → State → ℕ
number_in t s = number_for t.states t.cursors t.matched (Tables.states_in t.head) s

abbrev pub room_in : Tables.Table → State → Bool
room_in t s = room_for t.head (length t.states) (length t.cursors) (length t.matched) s

-- the table with the state s
unfoldable pub holding : Tables.Table → State → Tables.Table
holding t s = cond (ltb (number_in t s) (Tables.states_in t.head)) t (grown t s)

-- "a new state not yet held, lacks a state place (none counts past 512), cursor room or matched room"
abbrev pub state_lacks_room : Tables.Table → State → Bool
state_lacks_room t s = not (ltb (number_in t s) (Tables.states_in t.head)) && not (room_in t s)

unfoldable pub lacks_room : List ℕ → Tables.Table → ℕ → List ℕ → Bool
lacks_room w t p row =
    let x = row_at 16 row 0 in
    eqb (cached_in t p x) 0 && state_lacks_room t (next_state w t p x)

-- The child's number
unfoldable pub child_of : List ℕ → Tables.Table → ℕ → List ℕ → ℕ
child_of w t p row =
    let x = row_at 16 row 0 in
    let link = cached_in t p x in
    cond (eqb link 0) (number_in t (next_state w t p x)) (Tables.child_at t.transitions (link - 1))

-- The table afterwards
unfoldable pub entered : List ℕ → Tables.Table → ℕ → List ℕ → Tables.Table
entered w t p row =
    let x = row_at 16 row 0 in
    let s = next_state w t p x in
    cond (eqb (cached_in t p x) 0) (kept (holding t s) p (number_in t s) row) t
