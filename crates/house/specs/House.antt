-- What `walk` prints, from the input's bytes: 01, "House records and the program `walk`". Assumes nothing.
use Rattle.std.specs.Prelude.{cond, true, false, List, [], ◌∷◌, ◌++◌, ℕ, zero, suc, ◌+◌, ◌*◌, length, drop, replicate, eqb}
use Rattle.theory.specs.Sizes
use Rattle.lent.specs.Refusals.{check, first_of}
use Rattle.sheet.specs.Layout.{SHEET-WORDS}
use Rattle.sheet.specs.Laying.{emptied}
use Rattle.table.specs.Tables.{Table, table, STATE-WORDS, TRANSITION-WORDS}
use Rattle.table.specs.Entering.{built}
use Rattle.table.specs.Calls.{build_verdict}
use Rattle.records.specs.declared.Record.{Record}
use Rattle.records.specs.Records.{size_of, is_whole, record_in}
use Rattle.records.specs.Rows.{empty_row}
use Rattle.gather.specs.Opened.{Open, nothing}
use Rattle.gather.specs.Making.{sheet_faults, making_verdict, sheet_after, open_after}
use Rattle.wording.specs.Lines.{refused_line}
use Rattle.replies.specs.Walking.{Walking, walking, walking_line, walking_after, ends}

-- How far the records have come: none yet; a sheet in the making, with what is open, its ranking and stamp; a walk
pub data Phase : Type 0 where
  first : Phase
  making : List ℕ → Open → ℕ → ℕ → Phase
  walks : Walking → Phase

-- The empty sheet, and the memory that `walk` lends: "512 states and 4,096 each of cursors, matched numbers"; the room for transitions is its own
abbrev pub empty_sheet : List ℕ
empty_sheet = emptied (replicate SHEET-WORDS 0)

abbrev pub lent_table : ℕ → Table
lent_table room = table (replicate 8 0) (replicate (STATE-WORDS * Sizes.STATES) 0) (replicate 4096 0) (replicate 4096 0) (replicate (TRANSITION-WORDS * room) 0)

-- What a record does: it prints, and either ends the program or leads on
pub data Outcome : Type 0 where
  stops : List ℕ → Outcome
  leads : List ℕ → Phase → Outcome

-- "up to kind 8 .. it ends the program"
abbrev pub unless : ℕ → ℕ → Phase → Outcome
unless verdict offset next = cond (eqb verdict 0) (leads [] next) (stops (refused_line verdict offset))

-- "1 sheet, first and once"; "another kind first"
unfoldable pub first_verdict : Record → ℕ
first_verdict r = first_of (check 10 (cond (eqb r.kind 1) false true) ∷ sheet_faults r.first)

-- "8 end of sheet": the table is built of it
abbrev pub built_of : ℕ → List ℕ → ℕ → ℕ → Walking
built_of room w ranking stamp = walking w (built w stamp ranking (lent_table room)) (empty_row 16)

unfoldable pub making_outcome : ℕ → List ℕ → Open → ℕ → ℕ → ℕ → Record → Outcome
making_outcome room w o ranking stamp offset r =
    let w' = sheet_after w o r in
    cond (eqb (making_verdict w o r) 0)
    (cond (eqb r.kind 8)
    (unless (build_verdict w' ranking (lent_table room).states (lent_table room).cursors) offset (walks (built_of room w' ranking stamp)))
    (leads [] (making w' (open_after o r) ranking stamp)))
    (stops (refused_line (making_verdict w o r) offset))

unfoldable pub outcome : ℕ → Phase → ℕ → Record → Outcome
outcome room first offset r = unless (first_verdict r) offset (making empty_sheet nothing r.first r.second)
outcome room (making w o ranking stamp) offset r = making_outcome room w o ranking stamp offset r
outcome room (walks s) offset r = cond (ends s r) (stops (walking_line s offset r)) (leads (walking_line s offset r) (walks (walking_after s r)))

-- ---- record after record

-- with lines printed before
abbrev pub printing : List ℕ → Outcome → Outcome
printing lines (stops text) = stops (lines ++ text)
printing lines (leads text next) = leads (lines ++ text) next

abbrev pub onward : (Phase → Outcome) → Outcome → Outcome
onward rest (stops text) = stops text
onward rest (leads text next) = printing text (rest next)

-- The records of these bytes, the first of them at `offset`: what they print, and where they lead. An "unknown" or "cut short" one is refused.
-- Every record has a byte: as many turns as there are bytes
unfoldable pub reached_in : ℕ → ℕ → Phase → ℕ → List ℕ → Outcome
reached_in room zero phase offset bytes = leads [] phase
reached_in room (suc turns) phase offset [] = leads [] phase
reached_in room (suc turns) phase offset (b ∷ l) =
    cond (is_whole (b ∷ l))
    (onward (λ next. reached_in room turns next (offset + size_of b) (drop (size_of b) (b ∷ l))) (outcome room phase offset (record_in (b ∷ l))))
    (stops (refused_line 10 offset))

abbrev pub reached : ℕ → Phase → ℕ → List ℕ → Outcome
reached room phase offset bytes = reached_in room (length bytes) phase offset bytes

-- "input that ends before 8 (at its length)"
abbrev pub ending : Phase → ℕ → List ℕ
ending first offset = refused_line 10 offset
ending (making w o ranking stamp) offset = refused_line 10 offset
ending (walks s) offset = []

abbrev pub after : (Phase → List ℕ) → Outcome → List ℕ
after rest (stops text) = text
after rest (leads text next) = text ++ rest next

-- From a phase on, what the bytes that are left print, if they are all
abbrev pub walk_from : ℕ → Phase → ℕ → List ℕ → List ℕ
walk_from room phase offset bytes = after (λ next. ending next (offset + length bytes)) (reached room phase offset bytes)

-- The whole input to the whole output, if there is room for so many transitions
abbrev pub walk_of : ℕ → List ℕ → List ℕ
walk_of room input = walk_from room first 0 input
