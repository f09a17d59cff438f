use Rattle.merge.proofs.Storing.{next_bare, next_more, largest_small}
use borrow.Author.Rules.{rules}
use Rattle.merge.proofs.held.next_after.Goals as goal

pub returns-then-is_bare : goal.returns-then-is_bare
returns-then-is_bare c = search (next_bare, rules)

pub overflow_add-result : goal.overflow_add-result
overflow_add-result c =
    let h = largest_small _ _ c.args.a.other.in_shape c.largest_index.ensures in
    search rules

pub overflow_add-result-2 : goal.overflow_add-result-2
overflow_add-result-2 c =
    let h = largest_small _ _ c.args.a.other.in_shape c.largest_index.ensures in
    search rules

pub returns : goal.returns
returns c = search (next_more, rules)
