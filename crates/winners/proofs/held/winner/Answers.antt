use borrow.Author.Rules.{rules}
use Rattle.winners.proofs.Turns.{ruled}
use Rattle.winners.proofs.held.winner.Goals as goal

pub loop-r-init : goal.loop-r-init
loop-r-init c = search (ruled, rules)

pub or_rule-best-requires : goal.or_rule-best-requires
or_rule-best-requires c = search (ruled, rules)

pub loop-r-preserved : goal.loop-r-preserved
loop-r-preserved c = search (ruled, rules)

pub returns : goal.returns
returns c = search (ruled, rules)
