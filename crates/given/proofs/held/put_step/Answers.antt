use borrow.Author.Rules.{rules}
use Rattle.given.proofs.Rows.{step_placed}
use Rattle.given.proofs.held.put_step.Goals as goal

pub returns : goal.returns
returns c = search (step_placed, rules)
