use borrow.Author.Rules.{rules}
use Rattle.channels.proofs.Sets.{empty_told}
use Rattle.channels.proofs.ChannelSet.is_empty.Goals as goal

pub returns : goal.returns
returns c = search (empty_told, rules)
