use mathlib.Core.Path.{sym}
use borrow.Author.Rules.{rules}
use Rattle.bits.proofs.Bits.{bit_high, bit_tested}
use Rattle.channels.proofs.ChannelSet.contains.Goals as goal

pub returns-then-channel-ge32 : goal.returns-then-channel-ge32
returns-then-channel-ge32 c = sym (search (bit_high, rules))

pub returns : goal.returns
returns c = search (bit_tested, rules)
