use borrow.Author.Rules.{rules}
use Rattle.advance.proofs.Putting.{put_same, put_more}
use Rattle.advance.proofs.held.put_new.Goals as goal

pub returns-then-ends_with : goal.returns-then-ends_with
returns-then-ends_with c = search (put_same, rules)

pub returns : goal.returns
returns c = search (put_more, rules)
