use Rattle.replay.proofs.Held.{set_held}
use borrow.Author.Rules.{rules}
use Rattle.replay.proofs.sets.set_of.Goals as goal

-- `replay::sets::set_of` meets its contract. Assumes nothing.

pub returns : goal.returns
returns c = search (set_held, rules)
