use borrow.Author.Rules.{rules}
use Rattle.steps.proofs.Laws.{step_read}
use Rattle.steps.proofs.SelectorStep.from_row.Goals as goal

pub returns : goal.returns
returns c = search (step_read, rules)
