use Rattle.sheet.proofs.ShapeLaws.{Adding}
use Rattle.sheet.proofs.shape.sum_ids.Given as goal

abbrev pub invariant-loop-s : goal.invariant-loop-s
invariant-loop-s l = Adding l.sheet l.n l.s l.sum
