use Rattle.std.proofs.Common.{rules}
use Rattle.theory.proofs.Ordered.{comparing}
use Rattle.idset.proofs.compare.Goals as goal

pub returns-in-Less : goal.returns-in-Less
returns-in-Less c = search (comparing, rules)

pub returns-in-Equal : goal.returns-in-Equal
returns-in-Equal c = search (comparing, rules)

pub returns-in-Greater : goal.returns-in-Greater
returns-in-Greater c = search (comparing, rules)
