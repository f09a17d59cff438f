use Rattle.house.proofs.Front.{found_none, found_cut, found_whole}
use borrow.Author.Rules.{rules}
use Rattle.house.proofs.held.front.Goals as goal

-- `house::held::front` meets its contract. Assumes nothing.

pub returns-then-not-is_known : goal.returns-then-not-is_known
returns-then-not-is_known c = search (found_none, rules)

pub returns-then-not-is_whole : goal.returns-then-not-is_whole
returns-then-not-is_whole c = search (found_cut, rules)

pub returns : goal.returns
returns c = search (found_whole, rules)
