use Rattle.selector.proofs.WeighLaws.{Summing}
use Rattle.weight.proofs.held.sum.Given as goal

abbrev pub invariant-loop-k : goal.invariant-loop-k
invariant-loop-k l = Summing l.steps l.n l.k l.pseudos l.classes l.parts l.types
