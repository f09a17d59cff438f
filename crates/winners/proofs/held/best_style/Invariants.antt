use Rattle.winners.proofs.Turns.{Styled}
use Rattle.winners.proofs.held.best_style.Given as goal

abbrev pub invariant-loop-d : goal.invariant-loop-d
invariant-loop-d l = Styled l.sheet.words.now l.ranking l.property l.d-end l.d l.best
