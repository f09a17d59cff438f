use borrow.Author.Rules.{rules}
use Rattle.group.proofs.Writing.{step_start, step_code, step_row_lem, step_more, step_end}
use Rattle.group.proofs.held.put_selector.Goals as goal

pub loop-j-init : goal.loop-j-init
loop-j-init c = search (step_start, rules)

pub put_step-requires : goal.put_step-requires
put_step-requires c = search (step_code, step_row_lem, rules)

pub loop-j-preserved : goal.loop-j-preserved
loop-j-preserved c = search (step_more, rules)

pub returns : goal.returns
returns c = search (step_end, rules)
