-- Records 9 to 12: the calls that they make, and what is printed: 01, "House records and the program `walk`". Assumes nothing.
use Rattle.std.specs.Prelude.{Bool, cond, List, [], ◌∷◌, ℕ, get_or, replicate, eqb, ltb}
use Rattle.theory.specs.Sizes
use Rattle.lent.specs.Refusals.{check, first_of}
use Rattle.typed.specs.declared.SelectorInputs.{SelectorInputs}
use Rattle.typed.specs.Typed.{row_type, row_part, classes_from, pseudos_from, inputs_row}
use Rattle.owned.specs.Owned.{owned_inputs}
use Rattle.table.specs.Tables.{Table, stamp_in}
use Rattle.table.specs.Entering.{child_of, entered}
use Rattle.table.specs.Calls.{state_verdict, enter_verdict}
use Rattle.looking.specs.Calls.{rules_at, winner_in}
use Rattle.cascade.specs.Calls.{changed_in, changed_verdict}
use Rattle.records.specs.declared.Record.{Record}
use Rattle.records.specs.Rows.{empty_row, with_item, item_over}
use Rattle.wording.specs.Lines.{refused_line, state_line, changed_line, winner_line}

-- The sheet, the table, and "the items since the last enter", as given, in a subject's row
pub record Walking : Type 0 where
  pub sheet : List ℕ
  pub table : Table
  pub items : List ℕ

abbrev pub walking : List ℕ → Table → List ℕ → Walking
walking w t items = record { sheet = w; table = t; items = items }

-- "Items are sorted as for an owned subject."
unfoldable pub subject_of : List ℕ → SelectorInputs
subject_of row = owned_inputs (row_type row) (row_part row) (classes_from 16 row 6) (get_or row 4 0) (pseudos_from 16 row 22) (get_or row 5 0)

abbrev pub row_of : Walking → List ℕ
row_of s = inputs_row (subject_of s.items)

-- the states that records name have the sheet's stamp
abbrev pub stamp_of : Walking → ℕ
stamp_of s = stamp_in s.table.head

-- "A refusal prints `refused N at OFFSET`"; an accepted record what it answers
abbrev pub printed : ℕ → ℕ → List ℕ → List ℕ
printed verdict offset line = cond (eqb verdict 0) line (refused_line verdict offset)

-- ---- "9 subject item: as 6"

-- "which .. 3 pseudo"; "a subject's classes and pseudos 0 to 16 each as given"
unfoldable pub item_fault : List ℕ → ℕ → ℕ
item_fault row which = first_of (check 10 (ltb 3 which) ∷ check 2 (item_over Sizes.SUBJECT-IDS which row) ∷ [])

-- "an item refused is dropped"
unfoldable pub with_fit : List ℕ → ℕ → ℕ → List ℕ
with_fit row which id = cond (eqb (item_fault row which) 0) (with_item 16 which id row) row

-- ---- "10 enter with the items since the last enter"

abbrev pub entering_verdict : Walking → ℕ → ℕ
entering_verdict s parent = enter_verdict s.sheet s.table parent (stamp_of s) (row_of s)

abbrev pub child_in : Walking → ℕ → ℕ
child_in s parent = child_of s.sheet s.table parent (row_of s)

abbrev pub entered_in : Walking → ℕ → Table
entered_in s parent = entered s.sheet s.table parent (row_of s)

-- refusals: "None writes."
unfoldable pub enter_after : Walking → ℕ → Table
enter_after s parent = cond (eqb (entering_verdict s parent) 0) (entered_in s parent) s.table

-- ---- "11 changed"

-- `walk` "lends .. 4,096 .. changed properties"
abbrev pub changed_room : List ℕ
changed_room = replicate 4096 0

abbrev pub changing_verdict : Walking → ℕ → ℕ → ℕ
changing_verdict s old new = changed_verdict s.sheet s.table old (stamp_of s) new (stamp_of s) changed_room

-- ---- "12 winner"

abbrev pub winning_verdict : Walking → ℕ → ℕ
winning_verdict s state = state_verdict s.sheet s.table state (stamp_of s)

-- ---- one record

-- the refusal of the call that it makes, or 0; "1 again" and "2 to 8 after 8" are misplaced
unfoldable pub walking_verdict : Walking → Record → ℕ
walking_verdict s r =
    cond (eqb r.kind 9) (item_fault s.items r.first)
    (cond (eqb r.kind 10) (entering_verdict s r.first)
    (cond (eqb r.kind 11) (changing_verdict s r.first r.second)
    (cond (eqb r.kind 12) (winning_verdict s r.first)
    10)))

-- what it prints if it is accepted, an item nothing: "child state, list length and rules; list length and properties; property and winner"
unfoldable pub accepted_line : Walking → Record → List ℕ
accepted_line s r =
    cond (eqb r.kind 9) []
    (cond (eqb r.kind 10) (state_line (child_in s r.first) (rules_at (entered_in s r.first) (child_in s r.first)))
    (cond (eqb r.kind 11) (changed_line (changed_in s.sheet s.table r.first r.second))
    (cond (eqb r.kind 12) (winner_line s.sheet r.second (winner_in s.sheet s.table r.first r.second))
    [])))

-- "A refusal prints `refused N at OFFSET`, the offset of the record's first byte"
unfoldable pub walking_line : Walking → ℕ → Record → List ℕ
walking_line s offset r = printed (walking_verdict s r) offset (accepted_line s r)

-- "as are the items of a refused enter"
unfoldable pub items_after : Walking → Record → List ℕ
items_after s r = cond (eqb r.kind 9) (with_fit s.items r.first r.second) (cond (eqb r.kind 10) (empty_row 16) s.items)

unfoldable pub table_after : Walking → Record → Table
table_after s r = cond (eqb r.kind 10) (enter_after s r.first) s.table

abbrev pub walking_after : Walking → Record → Walking
walking_after s r = walking s.sheet (table_after s r) (items_after s r)

-- "up to kind 8, and always for refusal 10, it ends the program"
unfoldable pub ends : Walking → Record → Bool
ends s r = eqb (walking_verdict s r) 10
