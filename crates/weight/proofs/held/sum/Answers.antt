use borrow.Author.Rules.{rules}
use Rattle.selector.proofs.WeighLaws.{sum_start, sum_next, sum_end, row_at_lem}
use Rattle.weight.proofs.held.sum.Goals as goal

pub loop-k-init : goal.loop-k-init
loop-k-init c = search (sum_start, rules)

pub step_specificity-s-requires : goal.step_specificity-s-requires
step_specificity-s-requires c = search (row_at_lem, rules)

pub loop-k-preserved : goal.loop-k-preserved
loop-k-preserved c = search (sum_next, rules)

pub returns : goal.returns
returns c = search (sum_end, rules)
