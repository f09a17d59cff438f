use Rattle.given.specs.Given.{group_of}
use Rattle.admit.proofs.Rules.{Judging}
use Rattle.admit.proofs.sources.check_rules.Given as goal

abbrev pub invariant-loop-k : goal.invariant-loop-k
invariant-loop-k l = Judging l.ids l.entries (group_of l.lists) l.n l.k l.p l.c l.q l.t
