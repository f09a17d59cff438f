use borrow.Author.Rules.{rules}
use Rattle.bench.proofs.Answers.{changing_is}
use Rattle.bench.proofs.winning.bench_changed.Goals as goal

-- `bench::winning::bench_changed` meets its contract. Assumes nothing.

pub returns : goal.returns
returns c = search (changing_is, rules)
