use borrow.Author.Rules.{rules}
use Rattle.bench.proofs.Answers.{best_is}
use Rattle.bench.proofs.held.bench_held_winner.Goals as goal

-- `bench::held::bench_held_winner` meets its contract. Assumes nothing.

pub returns : goal.returns
returns c = search (best_is, rules)
