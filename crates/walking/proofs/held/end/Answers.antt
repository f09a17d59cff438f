use Rattle.walking.proofs.Walking.{end_keeps, end_refuses}
use borrow.Author.Rules.{rules}
use Rattle.walking.proofs.held.end.Goals as goal

-- `walking::held::end` meets its contract. Assumes nothing.

pub returns-in_default : goal.returns-in_default
returns-in_default c = search (end_keeps, rules)

pub refused-used-requires : goal.refused-used-requires
refused-used-requires c = c.requires c.in-Unknown.is

pub returns : goal.returns
returns c = search (end_refuses, rules)
