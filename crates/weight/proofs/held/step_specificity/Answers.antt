use borrow.Author.Rules.{rules}
use Rattle.selector.proofs.WeighLaws.{pseudos_few, classes_few, step_counted}
use Rattle.weight.proofs.held.step_specificity.Goals as goal

pub different-pseudos-requires : goal.different-pseudos-requires
different-pseudos-requires c = search (pseudos_few, rules)

pub different-classes-requires : goal.different-classes-requires
different-classes-requires c = search (classes_few, rules)

pub returns : goal.returns
returns c = search (step_counted, rules)
