use borrow.Author.Rules.{rules}
use Rattle.winners.proofs.Turns.{next_unheld, next_less, next_more}
use Rattle.winners.proofs.held.or_rule.Goals as goal

pub returns-then-not-holds : goal.returns-then-not-holds
returns-then-not-holds c = search (next_unheld, rules)

pub returns-then-not-beats : goal.returns-then-not-beats
returns-then-not-beats c = search (next_less, rules)

pub returns : goal.returns
returns c = search (next_more, rules)
