use borrow.Author.Rules.{rules}
use Rattle.channels.proofs.Joining.{join_start, join_next, join_end}
use Rattle.channels.proofs.affected_channels.Goals as goal

pub loop-id-init : goal.loop-id-init
loop-id-init c = join_start

pub loop-id-preserved : goal.loop-id-preserved
loop-id-preserved c = search (join_next, rules)

pub returns : goal.returns
returns c = search (join_end, rules)
