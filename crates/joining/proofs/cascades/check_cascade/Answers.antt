use borrow.Author.Rules.{rules}
use Rattle.given.specs.Pushing.{cascade_verdict}
use Rattle.joining.proofs.Refusing.{refusals}
use Rattle.joining.proofs.cascades.check_cascade.Goals as goal

pub returns-then-not-is_sheet : goal.returns-then-not-is_sheet
unfolding cascade_verdict
returns-then-not-is_sheet c = search (refusals, rules) depth 12

pub returns-then-not-is_sheet-2 : goal.returns-then-not-is_sheet-2
unfolding cascade_verdict
returns-then-not-is_sheet-2 c = search (refusals, rules) depth 12

pub returns-then-sums_over : goal.returns-then-sums_over
unfolding cascade_verdict
returns-then-sums_over c = search (refusals, rules) depth 12

pub returns-then-indexes_over : goal.returns-then-indexes_over
unfolding cascade_verdict
returns-then-indexes_over c = search (refusals, rules) depth 12

pub returns : goal.returns
unfolding cascade_verdict
returns c = search (refusals, rules) depth 12
