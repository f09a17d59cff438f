use Rattle.lent.proofs.Copying.{Copying}
use Rattle.lent.proofs.words.copy_into.Given as goal

abbrev pub invariant-loop-j : goal.invariant-loop-j
invariant-loop-j g l = Copying l.initial.words l.at l.list l.j l.words
