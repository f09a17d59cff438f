use Prim.Native.Nat.{◌+◌, ◌*◌}
use Rattle.sheet.specs.Layout.{STYLE-ORIGIN, STYLE-WORDS}
use Rattle.given.specs.Leaves.{held_style_row}
use Rattle.merge.proofs.Storing.{Laying}
use Rattle.merge.proofs.held.put_held_styles.Given as goal

abbrev pub invariant-loop-k : goal.invariant-loop-k
invariant-loop-k l = Laying (held_style_row l.a.c l.a.other.words.now) (STYLE-ORIGIN + STYLE-WORDS * l.a.c.styles) l.n l.initial.sheet l.k l.sheet
