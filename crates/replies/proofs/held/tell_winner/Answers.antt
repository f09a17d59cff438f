use borrow.Author.Rules.{rules}
use Rattle.replies.proofs.Replying.{in_shape, winner_said}
use Rattle.replies.proofs.held.tell_winner.Goals as goal

-- `replies::held::tell_winner` meets its contract. Assumes nothing.

pub invariant_of-sheet : goal.invariant_of-sheet
invariant_of-sheet c = record { in_shape = (in_shape c.requires.covered.0).0 }

pub winning_source-best-requires : goal.winning_source-best-requires
winning_source-best-requires c = let (g, l, _) = c.requires.covered in record { sheet_value = (in_shape g).1; number_bound = l }

pub returns : goal.returns
returns c = search (winner_said, rules)
