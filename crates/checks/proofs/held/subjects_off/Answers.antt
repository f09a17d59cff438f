use borrow.Author.Rules.{rules}
use borrow.Author.Tests.{not-true, not-false}
use Rattle.lent.proofs.All.{sofar}
use Rattle.selector.specs.Checks.{subjects_off}
use Rattle.selector.proofs.CheckLaws.{off_none, off_one}
use Rattle.checks.proofs.held.subjects_off.Goals as goal

pub loop-i-init : goal.loop-i-init
loop-i-init c = search (sofar, rules)

pub returns-then-not-row_ascends : goal.returns-then-not-row_ascends
unfolding subjects_off
returns-then-not-row_ascends c = search (off_one, not-true, rules)

pub loop-i-preserved : goal.loop-i-preserved
loop-i-preserved c = search (sofar, not-false, rules)

pub returns : goal.returns
unfolding subjects_off
returns c = search (off_none, rules)
