use borrow.Author.Rules.{rules}
use Rattle.joining.proofs.Sums.{sum_wide}
use Rattle.joining.proofs.cascades.sum_over.Goals as goal

-- src/cascades.rt:22:18

-- src/cascades.rt:22:13

-- src/cascades.rt:22:42

-- src/cascades.rt:22:37

-- src/cascades.rt:22:13

-- src/cascades.rt:19:1

pub returns : goal.returns
returns c = search (sum_wide, rules)
