use Rattle.wording.proofs.Saying.{direct_said}
use borrow.Author.Rules.{rules}
use Rattle.wording.proofs.held.direct.Goals as goal

-- `wording::held::direct` meets its contract. Assumes nothing.

pub returns : goal.returns
returns c = search (direct_said, rules)
