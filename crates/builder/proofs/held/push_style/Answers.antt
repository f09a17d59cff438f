use borrow.Author.Rules.{rules}
use Rattle.builder.proofs.Pushes.{number_refused, number_pushed}
use Rattle.builder.proofs.held.push_style.Goals as goal

pub returns-in_err-check_style : goal.returns-in_err-check_style
returns-in_err-check_style c = search (number_refused, rules)

pub returns : goal.returns
returns c = search (number_pushed, c.in_ok-check_style.ensures, rules)
