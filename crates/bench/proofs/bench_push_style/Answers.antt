use borrow.Author.Rules.{rules}
use Rattle.bench.proofs.Laws.{push_is}
use Rattle.bench.proofs.bench_push_style.Goals as goal

-- `bench::bench_push_style` meets its contract. Assumes nothing.

pub returns : goal.returns
returns c = search (push_is, rules)
