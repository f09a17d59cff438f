use Rattle.weighed.proofs.Sums.{Adding}
use Rattle.weighed.proofs.held.sum.Given as goal

abbrev pub invariant-loop-s : goal.invariant-loop-s
invariant-loop-s l = Adding l.sheet.words.now l.number l.from l.to l.s l.pseudos l.classes l.parts l.types
