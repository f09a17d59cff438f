use borrow.Author.Rules.{rules}
use borrow.Author.Tests.{not-true, not-false}
use Rattle.lent.proofs.All.{sofar}
use Rattle.checks.proofs.held.rows_fit.Goals as goal

pub loop-k-init : goal.loop-k-init
loop-k-init c = search (sofar, rules)

pub returns-then-not-row_fits : goal.returns-then-not-row_fits
returns-then-not-row_fits c = search (sofar, not-true, rules)

pub loop-k-preserved : goal.loop-k-preserved
loop-k-preserved c = search (sofar, not-false, rules)

pub returns : goal.returns
returns c = search (sofar, rules)
