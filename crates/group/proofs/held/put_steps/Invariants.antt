use Rattle.group.proofs.Writing.{Ruling}
use Rattle.group.proofs.held.put_steps.Given as goal

abbrev pub invariant-loop-k : goal.invariant-loop-k
invariant-loop-k l = Ruling l.initial.sheet l.s l.g.lists.rules.now l.g.n l.g.lists.steps.now l.g.lists.combinators.now l.p l.c l.k l.sheet
