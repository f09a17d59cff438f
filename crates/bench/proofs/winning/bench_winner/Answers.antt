use borrow.Author.Rules.{rules}
use Rattle.bench.proofs.Answers.{winning_is}
use Rattle.bench.proofs.winning.bench_winner.Goals as goal

-- `bench::winning::bench_winner` meets its contract. Assumes nothing.

pub returns : goal.returns
returns c = search (winning_is, rules)
