use borrow.Author.Rules.{rules}
use borrow.Author.Tests.{not-true, not-false}
use Rattle.cached.proofs.Alike.{tags_differ, classes_differ, pseudos_decide}
use Rattle.cached.proofs.held.same_subject.Goals as goal

pub returns-then-not-same_tags : goal.returns-then-not-same_tags
returns-then-not-same_tags c = search (tags_differ, not-true, rules)

pub returns-then-not-same_lists : goal.returns-then-not-same_lists
returns-then-not-same_lists c = search (classes_differ, not-true, not-false, rules)

pub returns : goal.returns
returns c = search (pseudos_decide, not-false, rules)
