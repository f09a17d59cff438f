use borrow.Author.Rules.{rules}
use Rattle.reading.proofs.Answers.{rule_refused, rule_told_lem}
use Rattle.reading.proofs.read.rule.Goals as goal

pub returns-in_err-check_rule : goal.returns-in_err-check_rule
returns-in_err-check_rule c = search (rule_refused, rule_told_lem, rules)
