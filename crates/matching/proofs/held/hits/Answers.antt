use borrow.Author.Rules.{rules}
use Rattle.matching.proofs.Answers.{row_sorted}
use Rattle.matching.proofs.held.hits.Goals as goal

-- `matching::held::hits` meets its contract: the ids of a place's row ascend. Assumes nothing.

pub matches_row-requires : goal.matches_row-requires
matches_row-requires c = search (row_sorted, rules)
