use borrow.Author.Rules.{rules}
use Rattle.linking.proofs.Linking.{link_some, last_hooked}
use Rattle.linking.proofs.held.hook_last.Goals as goal

pub last_from-last-requires : goal.last_from-last-requires
last_from-last-requires c = rw c.word-n.ensures c.requires.1

pub overflow_sub-last : goal.overflow_sub-last
overflow_sub-last c = search (link_some, rules)

pub returns : goal.returns
returns c = search (last_hooked, rules)
