use borrow.Author.Rules.{rules}
use Rattle.cached.proofs.Alike.{tag_unset, tag_lacking, tag_set}
use Rattle.cached.proofs.held.same_tag.Goals as goal

pub returns-then-flag-eq0 : goal.returns-then-flag-eq0
returns-then-flag-eq0 c = search (tag_unset, rules)

pub returns-then-other_flag-eq0 : goal.returns-then-other_flag-eq0
returns-then-other_flag-eq0 c = search (tag_lacking, rules)

pub returns : goal.returns
returns c = search (tag_set, rules)
