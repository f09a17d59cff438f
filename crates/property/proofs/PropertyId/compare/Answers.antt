use Rattle.std.proofs.Common.{rules}
use Rattle.theory.proofs.Ordered.{comparing}
use Rattle.property.specs.Order.{order_of}
use Rattle.property.proofs.Order.{of_one_each}
use Rattle.property.proofs.PropertyId.compare.Goals as goal

-- `property::PropertyId::compare` meets its contract. Assumes nothing.

pub returns-in-Less : goal.returns-in-Less
unfolding order_of
returns-in-Less c = search (comparing, of_one_each, rules)

pub returns-in-Equal : goal.returns-in-Equal
unfolding order_of
returns-in-Equal c = search (comparing, of_one_each, rules)

pub returns-in-Greater : goal.returns-in-Greater
unfolding order_of
returns-in-Greater c = search (comparing, of_one_each, rules)
