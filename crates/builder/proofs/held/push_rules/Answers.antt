use borrow.Author.Rules.{rules}
use Rattle.builder.proofs.Pushes.{number_refused, number_pushed}
use Rattle.builder.proofs.held.push_rules.Goals as goal

pub returns-in_err-check_group : goal.returns-in_err-check_group
returns-in_err-check_group c = search (number_refused, rules)

pub returns : goal.returns
returns c = search (number_pushed, c.in_ok-check_group.ensures, rules)
