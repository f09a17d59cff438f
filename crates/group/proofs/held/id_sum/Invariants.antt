use Rattle.group.proofs.Writing.{Counting}
use Rattle.group.proofs.held.id_sum.Given as goal

abbrev pub invariant-loop-k : goal.invariant-loop-k
invariant-loop-k l = Counting l.g.lists.rules.now l.g.n l.g.lists.steps.now l.g.lists.combinators.now l.sum l.p l.k
