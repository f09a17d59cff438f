use Rattle.wording.proofs.Saying.{spacing_start, spacing_one, spacing_end}
use borrow.Author.Rules.{rules}
use Rattle.wording.proofs.held.spaced.Goals as goal

-- `wording::held::spaced` meets its contract. Assumes nothing.

pub loop-n-init : goal.loop-n-init
loop-n-init c = spacing_start _ _ _

pub loop-n-preserved : goal.loop-n-preserved
loop-n-preserved c = search (spacing_one, rules)

pub returns : goal.returns
returns c = search (spacing_end, rules)
