use Rattle.changes.proofs.Gathering.{Inserting}
use Rattle.changes.proofs.held.add_rule.Given as goal

abbrev pub invariant-loop-id : goal.invariant-loop-id
invariant-loop-id l = Inserting l.sheet l.number l.ids l.initial.list l.used l.id-index l.n l.list
