use borrow.Author.Rules.{rules}
use Rattle.lent.proofs.Refusals.{firsts}
use Rattle.checks.proofs.held.check_combinators.Goals as goal

pub returns-then-combinators_off : goal.returns-then-combinators_off
returns-then-combinators_off c = search (firsts, rules)

pub returns-then-codes_over : goal.returns-then-codes_over
returns-then-codes_over c = search (firsts, rules)

pub returns : goal.returns
returns c = search (firsts, rules)
