use borrow.Author.Rules.{rules}
use Rattle.selector.proofs.RowLaws.{tag_free, tag_missing, tag_both}
use Rattle.selector.proofs.held.tag_matches.Goals as goal

pub returns-then-word-eq0 : goal.returns-then-word-eq0
returns-then-word-eq0 c = search (tag_free, rules)

pub returns-then-word-eq0-2 : goal.returns-then-word-eq0-2
returns-then-word-eq0-2 c = search (tag_missing, rules)

pub returns : goal.returns
returns c = search (tag_both, rules)
