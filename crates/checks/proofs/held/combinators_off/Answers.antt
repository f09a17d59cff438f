use borrow.Author.Rules.{rules}
use Rattle.selector.proofs.CheckLaws.{none_off}
use Rattle.checks.proofs.held.combinators_off.Goals as goal

pub returns-then-n-eq0 : goal.returns-then-n-eq0
returns-then-n-eq0 c = search (none_off, rules)
