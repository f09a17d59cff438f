use borrow.Author.Rules.{rules}
use Rattle.finding.proofs.Finding.{seek_start, seek_hit, seek_more, seek_end}
use Rattle.finding.proofs.held.number_for.Goals as goal

pub loop-k-init : goal.loop-k-init
loop-k-init c = seek_start _ _ _ _ _

pub returns-then-is_state : goal.returns-then-is_state
returns-then-is_state c = search (seek_hit, rules)

pub loop-k-preserved : goal.loop-k-preserved
loop-k-preserved c = search (seek_more, rules)

pub returns : goal.returns
returns c = search (seek_end, rules)
