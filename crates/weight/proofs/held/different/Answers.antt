use borrow.Author.Rules.{rules}
use Rattle.selector.proofs.WeighLaws.{different_fits}
use Rattle.weight.proofs.held.different.Goals as goal

pub overflow_cast-result : goal.overflow_cast-result
overflow_cast-result c = search (different_fits, rules)
