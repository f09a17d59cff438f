use Rattle.records.proofs.Records.{known_none, known_some}
use borrow.Author.Rules.{rules}
use Rattle.records.proofs.held.is_known.Goals as goal

-- `records::held::is_known` meets its contract. Assumes nothing.

pub returns-then-kind-eq0 : goal.returns-then-kind-eq0
returns-then-kind-eq0 c = search (known_none, rules)

pub returns : goal.returns
returns c = search (known_some, rules)
