use borrow.Author.Rules.{rules}
use Rattle.joining.proofs.Largest.{most_start, most_next, most_end}
use Rattle.joining.proofs.cascades.largest_in.Goals as goal

pub loop-k-init : goal.loop-k-init
loop-k-init c = search (most_start, rules)

pub loop-k-preserved : goal.loop-k-preserved
loop-k-preserved c = rw c.max-most.ensures (most_next c.loop-k.invariant _ c.loop-k-test.true c.cell.ensures)

pub returns : goal.returns
returns c = search (most_end, rules)
