use Prim.Native.Nat.{◌+◌, ◌≤◌}
use lib.ListN.{length}
use Rattle.lent.proofs.Copying.{Copying}
use Rattle.lines.proofs.text.Given as goal

abbrev pub invariant-loop-i : goal.invariant-loop-i
invariant-loop-i l = Copying l.initial.out l.at l.words l.i l.out × (l.at + length l.words ≤ length l.initial.out)
