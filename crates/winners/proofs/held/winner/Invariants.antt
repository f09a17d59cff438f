use Rattle.winners.proofs.Turns.{Ruled}
use Rattle.winners.proofs.held.winner.Given as goal

abbrev pub invariant-loop-r : goal.invariant-loop-r
invariant-loop-r l = Ruled l.sheet.words.now l.ranking l.rules l.property l.r-index l.best
