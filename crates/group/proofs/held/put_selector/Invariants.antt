use Rattle.group.proofs.Writing.{Stepping}
use Rattle.group.proofs.held.put_selector.Given as goal

abbrev pub invariant-loop-j : goal.invariant-loop-j
invariant-loop-j l = Stepping l.initial.sheet l.s l.steps l.combinators l.n l.j l.sheet
