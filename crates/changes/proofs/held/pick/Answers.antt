use mathlib.Core.Path.{refl}
use borrow.Author.Rules.{rules}
use Rattle.changes.proofs.Picking.{picking_start, picking_room, picking_half, picking_one, picking_none, picking_end}
use Rattle.changes.proofs.held.pick.Goals as goal
use Rattle.changes.proofs.held.pick.Goals.{then-differs, else-differs}

pub loop-id-init : goal.loop-id-init
loop-id-init c = search (picking_start, rules)

pub overflow_cast-into : goal.overflow_cast-into
overflow_cast-into c = search (picking_half, rules)

pub bounds-into-n : goal.bounds-into-n
bounds-into-n c = search (picking_room, rules)

pub loop-id-preserved : goal.loop-id-preserved
loop-id-preserved c = elim c.if-differs.branch [
  | then-differs w ↦ rw (w.into-is, w.n-is) (picking_one c.loop-id.invariant c.loop-id-test.true refl c.differs.ensures w.if-differs.true)
  | else-differs w ↦ rw (w.into-is, w.n-is) (picking_none c.loop-id.invariant c.loop-id-test.true refl c.differs.ensures w.if-differs.false)
]

pub returns : goal.returns
returns c = search (picking_end, rules)
