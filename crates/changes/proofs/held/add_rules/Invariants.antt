use Rattle.changes.proofs.Gathering.{Asking}
use Rattle.changes.proofs.held.add_rules.Given as goal

abbrev pub invariant-loop-r : goal.invariant-loop-r
invariant-loop-r l = Asking l.sheet l.rules l.others l.initial.list l.used l.r-index l.n l.list
