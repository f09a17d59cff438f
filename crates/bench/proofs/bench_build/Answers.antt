use borrow.Author.Rules.{rules}
use Rattle.bench.proofs.Laws.{build_all}
use Rattle.bench.proofs.bench_build.Goals as goal

-- `bench::bench_build` meets its contract. Assumes nothing.

pub returns : goal.returns
returns c = search (build_all, rules)
