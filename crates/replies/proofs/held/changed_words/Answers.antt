use borrow.Author.Rules.{rules}
use Rattle.table.proofs.Roots.{held_within}
use Rattle.cascade.proofs.Written.{held_part}
use Rattle.replies.proofs.Replying.{in_shape, words_few, words_are}
use Rattle.replies.proofs.held.changed_words.Goals as goal

-- `replies::held::changed_words` meets its contract. Assumes nothing.

pub invariant_of-sheet : goal.invariant_of-sheet
invariant_of-sheet c = record { in_shape = (in_shape c.requires.covered).0 }

pub changed_properties-n-requires : goal.changed_properties-n-requires
changed_properties-n-requires c = let (a, b, _) = c.requires.bound in record { sheet_value = (in_shape c.requires.covered).1; bound = (a, b) }

pub slice_bounds-list-end : goal.slice_bounds-list-end
slice_bounds-list-end c = search (held_within, rules)

pub slice_bounds-widen_into-end : goal.slice_bounds-widen_into-end
slice_bounds-widen_into-end c = search (held_part, rules)

pub returns : goal.returns
returns c =
    let g = c.requires in
    let u = c.changed_properties-n.ensures in
    (u.count, words_few g.covered g.bound.0 g.bound.1 u, words_are g.covered g.bound.0 g.bound.1 u _ g.bound.2 _ c.widen_into.ensures)
