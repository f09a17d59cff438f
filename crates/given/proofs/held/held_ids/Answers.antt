use borrow.Author.Rules.{rules}
use Rattle.given.proofs.Counting.{ids_summed}
use Rattle.given.proofs.held.held_ids.Goals as goal

pub returns : goal.returns
returns c = search (ids_summed, rules)
