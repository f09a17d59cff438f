use borrow.Author.Rules.{rules}
use Rattle.admit.proofs.Ladders.{ladder}
use Rattle.admit.proofs.sources.check_index.Goals as goal

pub returns-then-word-gt65535 : goal.returns-then-word-gt65535
returns-then-word-gt65535 c = search (ladder, rules) depth 12

pub returns : goal.returns
returns c = search (ladder, rules) depth 12
