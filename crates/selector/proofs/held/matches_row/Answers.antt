use borrow.Author.Rules.{rules}
use borrow.Author.Tests.{not-true, not-false}
use Rattle.selector.proofs.RowLaws.{classes_ascend_lem, pseudos_ascend_lem, type_off, part_off, classes_off, row_matches}
use Rattle.selector.proofs.held.matches_row.Goals as goal

pub returns-then-not-tag_matches : goal.returns-then-not-tag_matches
returns-then-not-tag_matches c = search (type_off, not-true, rules)

pub returns-then-not-tag_matches-2 : goal.returns-then-not-tag_matches-2
returns-then-not-tag_matches-2 c = search (part_off, not-true, not-false, rules)

pub all_in-requires : goal.all_in-requires
all_in-requires c = search (classes_ascend_lem, rules)

pub returns-then-not-all_in : goal.returns-then-not-all_in
returns-then-not-all_in c = search (classes_off, not-true, not-false, rules)

pub all_in-requires-2 : goal.all_in-requires-2
all_in-requires-2 c = search (pseudos_ascend_lem, rules)

pub returns : goal.returns
returns c = search (row_matches, not-false, rules)
