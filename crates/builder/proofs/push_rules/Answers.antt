use borrow.Author.Rules.{rules}
use Rattle.builder.proofs.Pushes.{group_refused, group_pushed}
use Rattle.builder.proofs.push_rules.Goals as goal

pub returns-in_err-check_group : goal.returns-in_err-check_group
returns-in_err-check_group c = search (group_refused, rules)

pub returns : goal.returns
returns c = search (group_pushed, c.in_ok-check_group.ensures, rules)
