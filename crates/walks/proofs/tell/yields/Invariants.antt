use Rattle.std.proofs.Common.{length}
use Rattle.cursor.specs.Yielding.{rules_left}
use Rattle.walks.proofs.tell.yields.Given as goal

abbrev pub decreases-loop-rule : goal.decreases-loop-rule
decreases-loop-rule l = length (rules_left l.rule-iterator)
