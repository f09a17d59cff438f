use Rattle.channels.proofs.Joining.{Joining}
use Rattle.channels.proofs.affected_channels.Given as goal

abbrev pub invariant-loop-id : goal.invariant-loop-id
invariant-loop-id l = Joining l.masks l.ids l.set l.id-index
