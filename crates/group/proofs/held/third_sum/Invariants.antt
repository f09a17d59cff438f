use Rattle.group.proofs.Writing.{Thirds}
use Rattle.group.proofs.held.third_sum.Given as goal

abbrev pub invariant-loop-k : goal.invariant-loop-k
invariant-loop-k l = Thirds l.rules l.which l.n l.sum l.k
