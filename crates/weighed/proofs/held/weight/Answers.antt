use borrow.Author.Rules.{rules}
use Rattle.weighed.proofs.Sums.{sums_weigh, pairs_weigh}
use Rattle.weighed.proofs.held.weight.Goals as goal

pub returns-then-ranking-eq0 : goal.returns-then-ranking-eq0
returns-then-ranking-eq0 c = search (sums_weigh, rules)

pub returns : goal.returns
returns c = search (pairs_weigh, rules)
