use borrow.Author.Rules.{rules}
use Rattle.weighed.proofs.Sums.{sums}
use Rattle.weighed.proofs.held.sum.Goals as goal

pub loop-s-init : goal.loop-s-init
loop-s-init c = search (sums, rules)

pub step_counts-c-requires : goal.step_counts-c-requires
step_counts-c-requires c = search (sums, rules)

pub loop-s-preserved : goal.loop-s-preserved
loop-s-preserved c = search (sums, rules)

pub returns : goal.returns
returns c = search (sums, rules)
