use borrow.Author.Rules.{rules}
use Rattle.admit.proofs.Ladders.{rule_over, rule_untied, rule_form, rule_tied, rule_formable}
use Rattle.admit.proofs.sources.check_rule.Goals as goal

pub returns-in_err-check_rule_sizes : goal.returns-in_err-check_rule_sizes
returns-in_err-check_rule_sizes c = search (rule_over, rules)

pub check_combinators-requires : goal.check_combinators-requires
check_combinators-requires c = rule_tied _ _ _ _ _ _ _ _ _ _ c.in_ok-check_rule_sizes.ensures

pub returns-in_err-check_combinators : goal.returns-in_err-check_combinators
returns-in_err-check_combinators c = search (rule_untied, c.in_ok-check_rule_sizes.ensures, rules)

pub check_form-requires : goal.check_form-requires
check_form-requires c = rule_formable _ _ _ _ _ _ _ _ _ _ c.in_ok-check_rule_sizes.ensures

pub returns : goal.returns
returns c = rule_form _ _ _ _ _ _ _ _ _ _ c.in_ok-check_rule_sizes.ensures c.in_ok-check_combinators.ensures _ c.check_form.ensures
