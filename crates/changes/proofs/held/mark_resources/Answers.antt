use borrow.Author.Rules.{rules}
use Rattle.changes.proofs.Marking.{marking_start, marking_half, marking_one, marking_none, marking_end}
use Rattle.changes.proofs.held.mark_resources.Goals as goal
use Rattle.changes.proofs.held.mark_resources.Goals.{then-reads_resource, else-reads_resource}

pub loop-e-init : goal.loop-e-init
loop-e-init c = search (marking_start, rules)

pub overflow_cast-word : goal.overflow_cast-word
overflow_cast-word c = search (marking_half, rules)

pub loop-e-preserved : goal.loop-e-preserved
loop-e-preserved c = elim c.if-reads_resource.branch [
  | then-reads_resource w ↦ rw w.marks-is (marking_one c.loop-e.invariant c.loop-e-test.true c.word.ensures c.reads_resource.ensures w.if-reads_resource.true w.word-then-reads_resource.ensures w.mark.ensures)
  | else-reads_resource w ↦ rw w.marks-is (marking_none c.loop-e.invariant c.loop-e-test.true c.word.ensures c.reads_resource.ensures w.if-reads_resource.false)
]

pub returns : goal.returns
returns c = search (marking_end, rules)
