use Rattle.lines.proofs.Laws.{word_past, word_is}
use borrow.Author.Rules.{rules}
use Rattle.lines.proofs.word.Goals as goal

-- `lines::word` meets its contract. Assumes nothing.

pub returns-then-bytes-at : goal.returns-then-bytes-at
returns-then-bytes-at c = search (word_past, rules)

pub returns : goal.returns
returns c = search (word_is, rules)
