use borrow.Author.Rules.{rules}
use Rattle.changes.proofs.Asked.{differs_is}
use Rattle.changes.proofs.held.differs.Goals as goal

pub returns : goal.returns
returns c = search (differs_is, rules)
