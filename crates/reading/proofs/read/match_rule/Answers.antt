use borrow.Author.Rules.{rules}
use Rattle.reading.proofs.Answers.{rule_is}
use Rattle.reading.proofs.read.match_rule.Goals as goal

pub returns : goal.returns
returns c = search (rule_is, rules)
