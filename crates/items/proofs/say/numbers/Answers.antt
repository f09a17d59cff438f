use borrow.Author.Rules.{rules}
use Rattle.items.proofs.Saying.{saying_start, saying_one, saying_done}
use Rattle.items.proofs.say.numbers.Goals as goal

-- `items::say::numbers` meets its contract. Assumes nothing.

pub loop-n-init : goal.loop-n-init
loop-n-init c = search (saying_start, rules)

pub loop-n-preserved : goal.loop-n-preserved
loop-n-preserved c = search (saying_one, rules)

pub returns : goal.returns
returns c = search (saying_done, rules)
