-- One record of kind 9 to 12, or a misplaced one, over lent memory. Assumes nothing.
use Rattle.std.specs.Prelude.{◌≡◌, true, List, ℕ, length}
use Rattle.selector.specs.Checks.{row_fits}
use Rattle.table.specs.Tables.{Table}
use Rattle.covered.specs.Covered.{Covered}
use Rattle.records.specs.declared.Record.{Record}
use Rattle.wording.specs.Lines.{Said}
use Rattle.replies.specs.declared.Replied.{Replied}
use Rattle.replies.specs.Walking.{Walking, walking_line, table_after, items_after, ends}

-- what the records before have left: a table made of the sheet by calls, and a row that holds no more than was given
pub record Ready (w : List ℕ) (t : Table) (items : List ℕ) : Type 0 where
  pub covered : Covered w t
  pub states : length t.states ≡ 1536
  pub matched : length t.matched ≡ 4096
  pub row : length items ≡ 38
  pub fits : row_fits 16 items 0 ≡ true

-- The line, the table and the items after, and whether the program ends
pub record Replies (s : Walking) (offset : ℕ) (r : Record) (out : List ℕ) (at : ℕ) (answer : Replied) (out' : List ℕ) (t' : Table) (items' : List ℕ) : Type 0 where
  pub line : Said (walking_line s offset r) out at answer.used out'
  pub table : t' ≡ table_after s r
  pub items : items' ≡ items_after s r
  pub ends : answer.ends ≡ ends s r
