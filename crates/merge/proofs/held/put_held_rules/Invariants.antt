use Prim.Native.Nat.{◌+◌, ◌*◌}
use Rattle.sheet.specs.Layout.{RULE-ORIGIN, RULE-WORDS}
use Rattle.given.specs.Leaves.{held_row}
use Rattle.merge.proofs.Storing.{Laying}
use Rattle.merge.proofs.held.put_held_rules.Given as goal

abbrev pub invariant-loop-k : goal.invariant-loop-k
invariant-loop-k l = Laying (held_row l.a.c l.a.other.words.now) (RULE-ORIGIN + RULE-WORDS * l.a.c.rules) l.n l.initial.sheet l.k l.sheet
