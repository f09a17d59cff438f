use borrow.Author.Rules.{rules}
use Rattle.selector.proofs.RowLaws.{words_few}
use Rattle.owned.proofs.Laws.{sorted_fits, sorted_spelled}
use Rattle.owned.proofs.sorted_row.Goals as goal

pub from_ids-class_count-requires : goal.from_ids-class_count-requires
from_ids-class_count-requires c = search (words_few, rules)

pub from_ids-pseudo_count-requires : goal.from_ids-pseudo_count-requires
from_ids-pseudo_count-requires c = search (words_few, rules)

pub overflow_cast-row : goal.overflow_cast-row
overflow_cast-row c = search (sorted_fits, rules)

pub overflow_cast-row-2 : goal.overflow_cast-row-2
overflow_cast-row-2 c = search (sorted_fits, rules)

pub returns : goal.returns
returns c = search (sorted_spelled, rules)
