use Prim.Native.Nat.{◌-◌}
use lib.ListN.{length}
use Rattle.wording.proofs.Saying.{Spacing}
use Rattle.wording.proofs.held.spaced.Given as goal

abbrev pub invariant-loop-n : goal.invariant-loop-n
invariant-loop-n l = Spacing l.initial.out l.at l.list l.n-index l.out l.used
