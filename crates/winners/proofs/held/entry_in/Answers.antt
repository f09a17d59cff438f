use borrow.Author.Rules.{rules}
use Rattle.winners.proofs.Finding.{finds_past, finds_other, finds_at}
use Rattle.winners.proofs.held.entry_in.Goals as goal

pub lower_bound-at-requires : goal.lower_bound-at-requires
lower_bound-at-requires c = rw c.ids_in-list.ensures c.requires.k_value

pub returns-then-list-at : goal.returns-then-list-at
returns-then-list-at c = search (finds_past, rules)

pub returns-then-list-at-2 : goal.returns-then-list-at-2
returns-then-list-at-2 c = search (finds_other, rules)

pub returns : goal.returns
returns c = search (finds_at, rules)
