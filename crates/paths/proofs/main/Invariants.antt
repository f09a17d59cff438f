use Prim.Native.Nat.{◌≤◌}
use Rattle.paths.proofs.main.Given as goal

abbrev pub invariant-loop : goal.invariant-loop
invariant-loop l = l.case.have ≤ 131072
