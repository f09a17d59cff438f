use borrow.Author.Rules.{rules}
use Rattle.builder.proofs.Pushes.{cascade_refused, cascade_pushed}
use Rattle.builder.proofs.push_cascade.Goals as goal

pub returns-in_err-check_cascade : goal.returns-in_err-check_cascade
returns-in_err-check_cascade c = search (cascade_refused, rules)

pub returns : goal.returns
returns c = search (cascade_pushed, c.in_ok-check_cascade.ensures, rules)
