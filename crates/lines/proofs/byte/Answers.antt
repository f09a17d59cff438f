use Rattle.lines.proofs.Laws.{byte_past}
use borrow.Author.Rules.{rules}
use Rattle.lines.proofs.byte.Goals as goal

-- `lines::byte` meets its contract. Assumes nothing.

pub returns-else-at-bytes : goal.returns-else-at-bytes
returns-else-at-bytes c = search (byte_past, rules)
