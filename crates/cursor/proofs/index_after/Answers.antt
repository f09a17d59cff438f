use borrow.Author.Rules.{rules}
use mathlib.Core.Path.{sym}
use Rattle.cursor.proofs.Yielding.{index_within, index_end}
use Rattle.cursor.proofs.index_after.Goals as goal

-- `cursor::index_after` meets its contract: each branch's test says which case of `index_after` holds.

-- Assumes nothing.

pub returns-then-index-rules : goal.returns-then-index-rules
returns-then-index-rules c = search (index_within, rules)

pub returns : goal.returns
returns c = sym (index_end _ _ c.if-index-rules.false)
