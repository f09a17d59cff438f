use mathlib.Core.Path.{refl}
use borrow.Author.Rules.{rules}
use Rattle.changes.proofs.Gathering.{asking_start, asking_asks, asking_skip, asking_next, asking_end}
use Rattle.changes.proofs.held.add_rules.Goals as goal
use Rattle.changes.proofs.held.add_rules.Goals.{then-not-contains, else-not-contains}

pub loop-r-init : goal.loop-r-init
loop-r-init c = search (asking_start, rules)

pub add_rule-n-requires : goal.add_rule-n-requires
add_rule-n-requires c = asking_asks c.loop-r.invariant c.loop-r-test.true refl c.contains.ensures c.if-not-contains.true

pub loop-r-preserved : goal.loop-r-preserved
loop-r-preserved c = elim c.if-not-contains.branch [
  | then-not-contains w ↦ rw (w.list-is, w.n-is) (asking_next c.loop-r.invariant c.loop-r-test.true refl c.contains.ensures w.if-not-contains.true w.add_rule-n.ensures)
  | else-not-contains w ↦ rw (w.list-is, w.n-is) (asking_skip c.loop-r.invariant c.loop-r-test.true refl c.contains.ensures w.if-not-contains.false)
]

pub returns : goal.returns
returns c = search (asking_end, rules)
