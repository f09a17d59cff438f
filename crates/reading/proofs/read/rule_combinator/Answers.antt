use borrow.Author.Rules.{rules}
use Rattle.reading.proofs.Answers.{rule_refused, step_fits, combinator_none, combinator_last, combinator_found}
use Rattle.reading.proofs.read.rule_combinator.Goals as goal

pub returns-in_err-check_rule : goal.returns-in_err-check_rule
returns-in_err-check_rule c = search (rule_refused, step_fits, combinator_none, combinator_last, combinator_found, rules)

pub returns-then-n-i : goal.returns-then-n-i
returns-then-n-i c = search (rule_refused, step_fits, combinator_none, combinator_last, combinator_found, c.in_ok-check_rule.ensures, rules)

pub returns-then-n-next : goal.returns-then-n-next
returns-then-n-next c = search (rule_refused, step_fits, combinator_none, combinator_last, combinator_found, c.in_ok-check_rule.ensures, rules)

pub overflow_add-s : goal.overflow_add-s
overflow_add-s c = search (rule_refused, step_fits, combinator_none, combinator_last, combinator_found, c.in_ok-check_rule.ensures, rules)

pub returns : goal.returns
returns c = search (rule_refused, step_fits, combinator_none, combinator_last, combinator_found, c.in_ok-check_rule.ensures, rules)
