use borrow.Author.Rules.{rules}
use Rattle.weighed.proofs.Sums.{step_counted}
use Rattle.weighed.proofs.held.step_counts.Goals as goal

pub returns : goal.returns
returns c = search (step_counted, rules)
