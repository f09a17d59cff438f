use native.Mathlib.Omega.{arith}
use borrow.Author.Rules.{rules}
use Rattle.lent.proofs.Copying.{copy_start, copy_one, copy_end}
use Rattle.lines.proofs.Laws.{laid_not, laid_is}
use Rattle.lines.proofs.text.Goals as goal

-- `lines::text` meets its contract. Assumes nothing.

pub returns-then-out-at : goal.returns-then-out-at
returns-then-out-at c = search (laid_not, rules)

pub returns-then-out-at-2 : goal.returns-then-out-at-2
returns-then-out-at-2 c = search (laid_not, rules)

pub loop-i-init : goal.loop-i-init
loop-i-init c = (copy_start _ _ _, omega arith)

pub loop-i-preserved : goal.loop-i-preserved
loop-i-preserved c = search (copy_one, rules)

pub returns : goal.returns
returns c = search (laid_is, copy_end, rules)
