use Rattle.wording.proofs.Saying.{winner_said}
use borrow.Author.Rules.{rules}
use Rattle.wording.proofs.held.winner.Goals as goal

-- `wording::held::winner` meets its contract. Assumes nothing.

pub returns : goal.returns
returns c = search (winner_said, rules)
