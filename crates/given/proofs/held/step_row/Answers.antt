use borrow.Author.Rules.{rules}
use Rattle.given.proofs.Rows.{ids_fit_lem, row_spelled}
use Rattle.selector.proofs.WeighLaws.{pseudos_few, classes_few}
use Rattle.given.proofs.held.step_row.Goals as goal

pub from_ids-class_count-requires : goal.from_ids-class_count-requires
from_ids-class_count-requires c = search (classes_few, rules)

pub from_ids-pseudo_count-requires : goal.from_ids-pseudo_count-requires
from_ids-pseudo_count-requires c = search (pseudos_few, rules)

pub overflow_cast-result : goal.overflow_cast-result
overflow_cast-result c = search (ids_fit_lem, classes_few, rules)

pub overflow_cast-result-2 : goal.overflow_cast-result-2
overflow_cast-result-2 c = search (ids_fit_lem, pseudos_few, rules)

pub returns : goal.returns
returns c = search (row_spelled, rules)
