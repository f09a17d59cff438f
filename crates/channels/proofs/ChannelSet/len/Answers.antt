use borrow.Author.Rules.{rules}
use Rattle.bits.proofs.Bits.{ones_bits}
use Rattle.channels.proofs.ChannelSet.len.Goals as goal

pub returns : goal.returns
returns c = search (ones_bits, rules)
