use borrow.Author.Rules.{rules}
use Rattle.keys.proofs.Reading.{style_keyed}
use Rattle.keys.proofs.held.style_key.Goals as goal

pub returns : goal.returns
returns c = search (style_keyed, rules)
