use borrow.Author.Rules.{rules}
use Rattle.advance.proofs.Cursors.{kept_first, kept_yes, kept_not, one_free}
use Rattle.advance.proofs.held.put_kept.Goals as goal

pub returns-then-c-eq0 : goal.returns-then-c-eq0
returns-then-c-eq0 c = search (kept_first, rules)

pub put_new-requires : goal.put_new-requires
put_new-requires c = search (one_free, rules)

pub returns-then-descends : goal.returns-then-descends
returns-then-descends c = search (kept_yes, rules)

pub returns : goal.returns
returns c = search (kept_not, rules)
