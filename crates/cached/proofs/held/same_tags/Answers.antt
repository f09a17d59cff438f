use borrow.Author.Rules.{rules}
use borrow.Author.Tests.{not-true, not-false}
use Rattle.cached.proofs.Alike.{types_differ, parts_decide}
use Rattle.cached.proofs.held.same_tags.Goals as goal

pub returns-then-not-same_tag : goal.returns-then-not-same_tag
returns-then-not-same_tag c = search (types_differ, not-true, rules)

pub returns : goal.returns
returns c = search (parts_decide, not-false, rules)
