use Rattle.wording.proofs.Saying.{refused_said}
use borrow.Author.Rules.{rules}
use Rattle.wording.proofs.held.refused.Goals as goal

-- `wording::held::refused` meets its contract. Assumes nothing.

pub returns : goal.returns
returns c = search (refused_said, rules)
