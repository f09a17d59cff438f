use borrow.Author.Rules.{rules}
use Rattle.advance.proofs.Advanced.{parent_left, only_parent, only_root, parent_less, root_less, both_same}
use Rattle.advance.proofs.held.lowest.Goals as goal

pub offset_bounds-parent-i : goal.offset_bounds-parent-i
offset_bounds-parent-i c = search (parent_left, rules)

pub bounds-parent-i : goal.bounds-parent-i
bounds-parent-i c = search (parent_left, rules)

pub overflow_add-result : goal.overflow_add-result
overflow_add-result c =
    let h = parent_left c.args.parent.now c.args.root.now c.args.i c.args.j c.requires.root_value c.if-root-j.true in
    search rules

pub returns-then-root-j : goal.returns-then-root-j
returns-then-root-j c = search (only_parent, rules)

pub returns-then-parent-i : goal.returns-then-parent-i
returns-then-parent-i c = search (only_root, rules)

pub returns-then-a-b : goal.returns-then-a-b
returns-then-a-b c = search (parent_less, rules)

pub returns-then-b-a : goal.returns-then-b-a
returns-then-b-a c = search (root_less, rules)

pub returns : goal.returns
returns c = search (both_same, rules)
