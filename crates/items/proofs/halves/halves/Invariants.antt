use Rattle.std.proofs.Common.{◌≡◌, ◌%◌, ◌<◌, ◌≤◌, ℕ, get_or}
use Rattle.items.proofs.halves.halves.Given as goal

abbrev pub invariant-loop-i : goal.invariant-loop-i
invariant-loop-i l = record {
  halved : (k : ℕ) → k < l.i → get_or l.into k 0 ≡ get_or l.words k 0 % 65536;
  kept : (k : ℕ) → l.i ≤ k → get_or l.into k 0 ≡ get_or l.initial.into k 0;
}
