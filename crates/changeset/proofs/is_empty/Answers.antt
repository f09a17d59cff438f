use borrow.Author.Rules.{rules}
use Rattle.changeset.proofs.Calls.{count_past, count_empty}
use Rattle.changeset.proofs.is_empty.Goals as goal

pub returns-then-ids-count : goal.returns-then-ids-count
returns-then-ids-count c = search (count_past, rules)

pub returns : goal.returns
returns c = search (count_empty, rules)
