use borrow.Author.Rules.{rules}
use Rattle.typed.proofs.Laws.{inputs_read}
use Rattle.typed.proofs.SelectorInputs.from_row.Goals as goal

pub returns : goal.returns
returns c = search (inputs_read, rules)
