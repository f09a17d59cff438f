use borrow.Author.Rules.{rules}
use Rattle.cascade.proofs.Verdicts.{pairs}
use Rattle.cascade.proofs.change.check_pair.Goals as goal

pub returns-in_err-check_state : goal.returns-in_err-check_state
returns-in_err-check_state c = search (pairs, rules)

pub returns-then-not_a_state : goal.returns-then-not_a_state
returns-then-not_a_state c = search (pairs, rules)

pub returns : goal.returns
returns c = search (pairs, rules)
