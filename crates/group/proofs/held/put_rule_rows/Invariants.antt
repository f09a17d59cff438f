use Rattle.group.proofs.Writing.{Rowing}
use Rattle.group.proofs.held.put_rule_rows.Given as goal

abbrev pub invariant-loop-k : goal.invariant-loop-k
invariant-loop-k l = Rowing l.initial.sheet l.g.c.rules l.g.lists.rules.now l.g.n l.origin l.g.c.next l.g.c.steps l.g.c.entries l.step_end l.entry_end l.k l.sheet
