use Rattle.items.proofs.Saying.{Saying}
use Rattle.items.proofs.say.numbers.Given as goal

abbrev pub invariant-loop-n : goal.invariant-loop-n
invariant-loop-n l = Saying l.list l.initial.out l.at l.n-index l.out l.used
