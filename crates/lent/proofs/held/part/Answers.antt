use borrow.Author.Rules.{rules}
use Rattle.lent.proofs.Pool.{part_none, part_past, part_rest}
use Rattle.lent.proofs.held.part.Goals as goal

pub returns-then-to-from : goal.returns-then-to-from
returns-then-to-from c = search (part_none, rules)

pub returns-then-pool-from : goal.returns-then-pool-from
returns-then-pool-from c = search (part_past, rules)

pub returns-then-pool-to : goal.returns-then-pool-to
returns-then-pool-to c = search (part_rest, rules)
