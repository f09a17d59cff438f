use borrow.Author.Rules.{rules}
use Rattle.selector.proofs.WeighLaws.{flag_none, flag_set}
use Rattle.selector.proofs.held.flag.Goals as goal

pub returns-then-word-eq0 : goal.returns-then-word-eq0
returns-then-word-eq0 c = search (flag_none, rules)

pub returns-else-word-eq0 : goal.returns-else-word-eq0
returns-else-word-eq0 c = search (flag_set, rules)
