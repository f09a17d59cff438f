use borrow.Author.Rules.{rules}
use Rattle.style.proofs.LookLaws.{ids_sorted, place_found, place_other, place_past}
use Rattle.style.proofs.held.place.Goals as goal

pub lower_bound-at-requires : goal.lower_bound-at-requires
lower_bound-at-requires c = search (ids_sorted, rules)

pub returns-then-words-at : goal.returns-then-words-at
returns-then-words-at c = search (place_found, rules)

pub returns-else-words-at : goal.returns-else-words-at
returns-else-words-at c = search (place_other, rules)

pub returns-else-at-n : goal.returns-else-at-n
returns-else-at-n c = search (place_past, rules)
