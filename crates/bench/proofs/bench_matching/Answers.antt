use borrow.Author.Rules.{rules}
use Rattle.bench.proofs.Laws.{copied_is}
use Rattle.bench.proofs.bench_matching.Goals as goal

-- `bench::bench_matching` meets its contract. Assumes nothing.

pub returns : goal.returns
returns c = search (copied_is, rules)
