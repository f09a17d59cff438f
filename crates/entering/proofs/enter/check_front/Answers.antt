use borrow.Author.Rules.{rules}
use Rattle.entering.proofs.Fronts.{fronts}
use Rattle.entering.proofs.enter.check_front.Goals as goal

pub returns-in_err-check_state : goal.returns-in_err-check_state
returns-in_err-check_state c = search (fronts, rules)

pub returns-then-not-row_fits : goal.returns-then-not-row_fits
returns-then-not-row_fits c = search (fronts, rules)

pub returns-then-not-row_ascends : goal.returns-then-not-row_ascends
returns-then-not-row_ascends c = search (fronts, rules)

pub returns : goal.returns
returns c = search (fronts, rules)
