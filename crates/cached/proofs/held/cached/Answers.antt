use borrow.Author.Rules.{rules}
use Rattle.cached.proofs.Following.{cached_is}
use Rattle.cached.proofs.held.cached.Goals as goal

pub returns : goal.returns
returns c = search (cached_is, rules)
