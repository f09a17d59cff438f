use borrow.Author.Rules.{rules}
use borrow.Author.Tests.{not-false}
use Rattle.linking.proofs.Linking.{follow_start, follow_here, follow_next, follow_end}
use Rattle.linking.proofs.held.last_from.Goals as goal

pub loop-init : goal.loop-init
loop-init c = search (follow_start, rules)

pub returns-then-not-leads : goal.returns-then-not-leads
returns-then-not-leads c = search (follow_here, rules)

pub loop-preserved : goal.loop-preserved
loop-preserved c = search (follow_next, not-false, rules)

pub returns : goal.returns
returns c = search (follow_end, rules)
