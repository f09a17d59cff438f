use Rattle.finding.specs.States.{state}
use Rattle.finding.proofs.Finding.{Seeking}
use Rattle.finding.proofs.held.number_for.Given as goal

abbrev pub invariant-loop-k : goal.invariant-loop-k
invariant-loop-k l = Seeking l.states l.cursors l.matched l.n (state l.next l.listed) l.k
