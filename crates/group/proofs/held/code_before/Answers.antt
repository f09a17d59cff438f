use borrow.Author.Rules.{rules}
use Rattle.group.proofs.Writing.{code_later}
use Rattle.group.proofs.held.code_before.Goals as goal

pub returns : goal.returns
returns c = search (code_later, rules)
