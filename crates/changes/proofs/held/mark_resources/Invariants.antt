use Rattle.changes.proofs.Marking.{Marking}
use Rattle.changes.proofs.held.mark_resources.Given as goal

abbrev pub invariant-loop-e : goal.invariant-loop-e
invariant-loop-e l = Marking l.sheet l.base l.room l.n l.initial.marks l.e l.marks
