use Rattle.std.proofs.Common.{◌≡◌, ℕ, get_or, ◌<◌, length}
use Rattle.typed.proofs.numbers.Given as goal

abbrev pub invariant-loop-k : goal.invariant-loop-k
invariant-loop-k g l = (length l.words ≡ g.row.N) × ((j : ℕ) → j < l.k → get_or l.words j 0 ≡ g.T.Tag.value (get_or l.fn.ids j (g.T.Tag.made 0)))
