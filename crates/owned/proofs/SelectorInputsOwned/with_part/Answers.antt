use borrow.Author.Rules.{rules}
use Rattle.owned.proofs.Laws.{owned_classes, owned_pseudos, owned_class_count, owned_pseudo_count, owned_accepted}
use Rattle.owned.proofs.SelectorInputsOwned.with_part.Goals as goal

pub returns-then-class_count-gt16 : goal.returns-then-class_count-gt16
returns-then-class_count-gt16 c = search (owned_classes, rules)

pub returns-then-pseudo_count-gt16 : goal.returns-then-pseudo_count-gt16
returns-then-pseudo_count-gt16 c = search (owned_pseudos, rules)

pub sorted_row-requires : goal.sorted_row-requires
sorted_row-requires c = search (owned_class_count, owned_pseudo_count, rules)

pub returns : goal.returns
returns c = search (owned_accepted, rules)
