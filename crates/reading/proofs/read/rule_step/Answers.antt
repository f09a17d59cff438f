use borrow.Author.Rules.{rules}
use Rattle.reading.proofs.Answers.{step_refused, step_absent, step_fits, step_found}
use Rattle.reading.proofs.read.rule_step.Goals as goal

pub returns-in_err-check_rule : goal.returns-in_err-check_rule
returns-in_err-check_rule c = search (step_refused, step_absent, step_fits, step_found, rules)

pub returns-then-list_length-i : goal.returns-then-list_length-i
returns-then-list_length-i c = search (step_refused, step_absent, step_fits, step_found, c.in_ok-check_rule.ensures, rules)

pub overflow_add-start_of : goal.overflow_add-start_of
overflow_add-start_of c = search (step_refused, step_absent, step_fits, step_found, c.in_ok-check_rule.ensures, rules)

pub returns : goal.returns
returns c = search (step_refused, step_absent, step_fits, step_found, c.in_ok-check_rule.ensures, rules)
