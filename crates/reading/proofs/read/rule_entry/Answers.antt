use borrow.Author.Rules.{rules}
use Rattle.reading.proofs.Answers.{rule_refused, entry_absent, entry_fits, entry_held, entry_found}
use Rattle.reading.proofs.read.rule_entry.Goals as goal

pub returns-in_err-check_rule : goal.returns-in_err-check_rule
returns-in_err-check_rule c = search (rule_refused, entry_absent, entry_fits, entry_held, entry_found, rules)

pub returns-then-list_length-i : goal.returns-then-list_length-i
returns-then-list_length-i c = search (rule_refused, entry_absent, entry_fits, entry_held, entry_found, c.in_ok-check_rule.ensures, rules)

pub overflow_add-start_of : goal.overflow_add-start_of
overflow_add-start_of c = search (rule_refused, entry_absent, entry_fits, entry_held, entry_found, c.in_ok-check_rule.ensures, rules)

pub entry_at-requires : goal.entry_at-requires
entry_at-requires c = search (rule_refused, entry_absent, entry_fits, entry_held, entry_found, c.in_ok-check_rule.ensures, rules)

pub returns : goal.returns
returns c = search (rule_refused, entry_absent, entry_fits, entry_held, entry_found, c.in_ok-check_rule.ensures, rules)
