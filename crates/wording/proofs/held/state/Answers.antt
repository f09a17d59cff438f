use Rattle.wording.proofs.Saying.{state_said}
use borrow.Author.Rules.{rules}
use Rattle.wording.proofs.held.state.Goals as goal

-- `wording::held::state` meets its contract. Assumes nothing.

pub returns : goal.returns
returns c = search (state_said, rules)
