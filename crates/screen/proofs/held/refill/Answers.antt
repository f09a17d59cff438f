use borrow.Author.Rules.{rules}
use Rattle.screen.proofs.Shifting.{refilled}
use Rattle.screen.proofs.held.refill.Goals as goal

-- `screen::held::refill` meets its contract. Assumes nothing.

pub returns : goal.returns
returns c = search (refilled, rules)
