use Rattle.lent.specs.Pool.{ends_in}
use Rattle.joining.proofs.Largest.{Most}
use Rattle.joining.proofs.cascades.largest_in.Given as goal

abbrev pub invariant-loop-k : goal.invariant-loop-k
invariant-loop-k l = Most (ends_in l.sheet l.column.base l.column.stride) l.n l.k l.most
