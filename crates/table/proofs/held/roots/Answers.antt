use borrow.Author.Rules.{rules}
use Rattle.table.proofs.Roots.{root_start, root_fits, root_no, root_yes, root_end}
use Rattle.table.proofs.held.roots.Goals as goal
use Rattle.table.proofs.held.roots.Goals.{then-start_of-cell, else-start_of-cell}

pub loop-r-init : goal.loop-r-init
loop-r-init c = search (root_start, rules)

pub bounds-cursors-used : goal.bounds-cursors-used
bounds-cursors-used c = search (root_fits, rules)

pub loop-r-preserved : goal.loop-r-preserved
loop-r-preserved c =
    let u = c.loop-r.invariant in
    let h = c.loop-r-test.true in
    elim c.if-start_of-cell.branch [
      | then-start_of-cell w ↦ rw (w.cursors-is, w.used-is) (root_yes u h _ _ c.start_of.ensures c.cell.ensures w.if-start_of-cell.true)
      | else-start_of-cell w ↦ rw (w.cursors-is, w.used-is) (root_no u h _ _ c.start_of.ensures c.cell.ensures w.if-start_of-cell.false)
    ]

pub returns : goal.returns
returns c = search (root_end, rules)
