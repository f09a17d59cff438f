use borrow.Author.Rules.{rules}
use Rattle.linking.proofs.Linking.{first_hooked}
use Rattle.linking.proofs.held.hook_first.Goals as goal

pub returns : goal.returns
returns c = search (first_hooked, rules)
