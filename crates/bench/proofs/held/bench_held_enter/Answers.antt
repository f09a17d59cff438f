use borrow.Author.Rules.{rules}
use Rattle.bench.proofs.Laws.{held_is}
use Rattle.bench.proofs.held.bench_held_enter.Goals as goal

-- `bench::held::bench_held_enter` meets its contract. Assumes nothing.

pub returns : goal.returns
returns c = search (held_is, rules)
