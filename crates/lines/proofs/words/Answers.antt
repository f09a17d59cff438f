use borrow.Author.Rules.{rules}
use Rattle.lines.proofs.Laws.{reading_start, reading_one, reading_end}
use Rattle.lines.proofs.words.Goals as goal

-- `lines::words` meets its contract. Assumes nothing.

pub loop-i-init : goal.loop-i-init
loop-i-init c = reading_start _ _

pub loop-i-preserved : goal.loop-i-preserved
loop-i-preserved c = search (reading_one, rules)

pub returns : goal.returns
returns c = search (reading_end, rules)
