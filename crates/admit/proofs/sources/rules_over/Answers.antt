use borrow.Author.Rules.{rules}
use Rattle.admit.proofs.Ladders.{rules_few, rules_hit, rules_last}
use Rattle.admit.proofs.sources.rules_over.Goals as goal

pub overflow_sub-wide : goal.overflow_sub-wide
overflow_sub-wide c = search (rules_few, rules)

pub returns-then-wide-n : goal.returns-then-wide-n
returns-then-wide-n c = search (rules_hit, rules)

pub returns : goal.returns
returns c = search (rules_last, rules)
