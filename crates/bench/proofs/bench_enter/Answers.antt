use borrow.Author.Rules.{rules}
use Rattle.bench.proofs.Laws.{enter_is}
use Rattle.bench.proofs.bench_enter.Goals as goal

-- `bench::bench_enter` meets its contract. Assumes nothing.

pub returns : goal.returns
returns c = search (enter_is, rules)
