use Rattle.selector.specs.Rows.{row_at}
use Rattle.cached.proofs.Following.{Following}
use Rattle.cached.proofs.held.cached_from.Given as goal

abbrev pub invariant-loop : goal.invariant-loop
invariant-loop l = Following l.transitions l.count l.parent (row_at 16 l.row 0) l.first l.link l.counter
