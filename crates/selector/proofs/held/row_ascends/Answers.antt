use borrow.Author.Rules.{rules}
use borrow.Author.Tests.{not-true, not-false}
use Rattle.selector.proofs.CheckLaws.{classes_unsorted, pseudos_ascending}
use Rattle.selector.proofs.held.row_ascends.Goals as goal

pub returns-then-not-is_ascending : goal.returns-then-not-is_ascending
returns-then-not-is_ascending c = search (classes_unsorted, not-true, rules)

pub returns : goal.returns
returns c = search (pseudos_ascending, not-false, rules)
