use borrow.Author.Rules.{rules}
use Rattle.joining.proofs.Largest.{bare_not, bare_rules}
use Rattle.joining.proofs.cascades.is_bare.Goals as goal

pub returns-then-word-ne0 : goal.returns-then-word-ne0
returns-then-word-ne0 c = search (bare_not, rules)

pub returns : goal.returns
returns c = search (bare_rules, rules)
