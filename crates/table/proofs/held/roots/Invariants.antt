use Rattle.table.proofs.Roots.{Rooting}
use Rattle.table.proofs.held.roots.Given as goal

abbrev pub invariant-loop-r : goal.invariant-loop-r
invariant-loop-r l = Rooting l.sheet.words.now l.initial.cursors l.rules l.r l.used l.cursors
