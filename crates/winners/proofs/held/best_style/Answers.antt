use borrow.Author.Rules.{rules}
use Rattle.winners.proofs.Turns.{styled}
use Rattle.winners.proofs.held.best_style.Goals as goal

pub loop-d-init : goal.loop-d-init
loop-d-init c = search (styled, rules)

pub or_style-best-requires : goal.or_style-best-requires
or_style-best-requires c = search (styled, rules)

pub loop-d-preserved : goal.loop-d-preserved
loop-d-preserved c = search (styled, rules)

pub returns : goal.returns
returns c = search (styled, rules)
