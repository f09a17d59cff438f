use borrow.Author.Rules.{rules}
use borrow.Author.Tests.{not-true, not-false}
use Rattle.table.proofs.Chains.{leads_some}
use Rattle.cached.proofs.Following.{following}
use Rattle.cached.proofs.held.cached_from.Goals as goal

pub loop-init : goal.loop-init
loop-init c = search (following, rules)

pub returns-then-not-leads : goal.returns-then-not-leads
returns-then-not-leads c = search (following, not-true, rules)

pub overflow_sub-k : goal.overflow_sub-k
overflow_sub-k c = search (leads_some, not-false, rules)

pub returns-then-is_hit : goal.returns-then-is_hit
returns-then-is_hit c = search (following, not-false, rules)

pub loop-preserved : goal.loop-preserved
loop-preserved c = search (following, not-false, rules)

pub returns : goal.returns
returns c = search (following, rules)
