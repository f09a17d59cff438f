use borrow.Author.Rules.{rules}
use Rattle.wording.proofs.Saying.{nobody_said, style_said, listed_rule_said}
use Rattle.wording.proofs.held.source.Goals as goal

-- `wording::held::source` meets its contract. Assumes nothing.

pub returns-in_default : goal.returns-in_default
returns-in_default c = search (nobody_said, rules)

pub returns-in-Style : goal.returns-in-Style
returns-in-Style c = search (style_said, c.in-Some.is, rules)

pub returns-in-Rule : goal.returns-in-Rule
returns-in-Rule c = search (listed_rule_said, c.in-Some.is, rules)
