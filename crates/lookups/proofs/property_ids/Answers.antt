use borrow.Author.Rules.{rules}
use Rattle.lookups.proofs.Accepted.{accepted}
use Rattle.lookups.proofs.property_ids.Goals as goal

pub slice_bounds-result-end : goal.slice_bounds-result-end
slice_bounds-result-end c = let a = accepted _ _ _ _ c.in-Ok.ensures in search rules
