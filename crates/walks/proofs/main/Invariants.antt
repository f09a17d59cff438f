use Prim.Native.Nat.{◌≤◌}
use Rattle.walks.proofs.main.Given as goal

abbrev pub invariant-loop : goal.invariant-loop
invariant-loop l = (l.item.next ≤ l.item.have) × (l.item.have ≤ 262144)
