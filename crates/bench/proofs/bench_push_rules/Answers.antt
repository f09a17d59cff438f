use borrow.Author.Rules.{rules}
use Rattle.bench.proofs.Laws.{push_is}
use Rattle.bench.proofs.bench_push_rules.Goals as goal

-- `bench::bench_push_rules` meets its contract. Assumes nothing.

pub returns : goal.returns
returns c = search (push_is, rules)
