use Rattle.idset.proofs.Ascending.{Ascent}
use Rattle.idset.proofs.is_ascending.Given as goal

abbrev pub invariant-loop-x : goal.invariant-loop-x
invariant-loop-x l = Ascent l.ids l.low l.x-index
