use Rattle.wording.proofs.Saying.{rule_said}
use borrow.Author.Rules.{rules}
use Rattle.wording.proofs.held.rule.Goals as goal

-- `wording::held::rule` meets its contract. Assumes nothing.

pub returns : goal.returns
returns c = search (rule_said, rules)
