use Prim.Native.Nat.{◌*◌}
use Rattle.lent.proofs.All.{Sofar}
use Rattle.selector.specs.Checks.{row_fits}
use Rattle.checks.proofs.held.rows_fit.Given as goal

abbrev pub invariant-loop-k : goal.invariant-loop-k
invariant-loop-k l = Sofar (λ j. row_fits l.size l.rows (l.words * j)) l.n l.k
