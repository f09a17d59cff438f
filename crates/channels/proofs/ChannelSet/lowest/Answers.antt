use borrow.Author.Rules.{rules}
use Rattle.channels.proofs.Sets.{lowest_none, lowest_some}
use Rattle.channels.proofs.ChannelSet.lowest.Goals as goal

pub returns-then-self-eq0 : goal.returns-then-self-eq0
returns-then-self-eq0 c = search (lowest_none, rules)

pub returns : goal.returns
returns c = search (lowest_some, rules)
