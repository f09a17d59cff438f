use borrow.Author.Rules.{rules}
use Rattle.group.proofs.Writing.{style_parts}
use Rattle.group.proofs.held.put_style_parts.Goals as goal

pub returns : goal.returns
returns c = search (style_parts, rules)
