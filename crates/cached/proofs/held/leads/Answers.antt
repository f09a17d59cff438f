use borrow.Author.Rules.{rules}
use Rattle.cached.proofs.Leading.{leads_none, leads_within}
use Rattle.cached.proofs.held.leads.Goals as goal

pub returns-then-link-eq0 : goal.returns-then-link-eq0
returns-then-link-eq0 c = search (leads_none, rules)

pub returns : goal.returns
returns c = search (leads_within, rules)
