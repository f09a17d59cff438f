use borrow.Author.Rules.{rules}
use Rattle.advance.proofs.Cursors.{passes_is, place_low}
use Rattle.advance.proofs.held.passes.Goals as goal

pub matches_row-requires : goal.matches_row-requires
matches_row-requires c = search (place_low, rules)

pub returns : goal.returns
returns c = search (passes_is, rules)
