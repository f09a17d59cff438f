use Rattle.linking.proofs.Linking.{Following}
use Rattle.linking.proofs.held.last_from.Given as goal

abbrev pub invariant-loop : goal.invariant-loop
invariant-loop l = Following l.transitions l.count l.first l.link l.counter
