use borrow.Author.Rules.{rules}
use Rattle.replies.proofs.Replying.{part_count, part_few, part_said}
use Rattle.replies.proofs.held.tell_changed.Goals as goal

-- `replies::held::tell_changed` meets its contract. Assumes nothing.

pub slice_bounds-changed-end : goal.slice_bounds-changed-end
slice_bounds-changed-end c = part_count _ _ _ c.changed_words-n.ensures

pub changed-requires : goal.changed-requires
changed-requires c = (search rules, part_few _ _ _ c.changed_words-n.ensures)

pub returns : goal.returns
returns c = search (part_said, rules)
