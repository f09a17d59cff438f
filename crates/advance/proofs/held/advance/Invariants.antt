use Prim.Native.Nat.{◌+◌, ◌-◌}
use lib.ListN.{length}
use Rattle.selector.specs.Rows.{row_at}
use Rattle.advance.proofs.Advanced.{Turns}
use Rattle.advance.proofs.held.advance.Given as goal

abbrev pub invariant-loop-sheet : goal.invariant-loop-sheet
invariant-loop-sheet l = Turns l.sheet.words.now (row_at 16 l.subject 0) l.parent l.root l.initial.next l.initial.listed l.next l.listed l.done.parent l.done.root l.done.counts.cursors l.done.counts.matched

abbrev pub decreases-loop-sheet : goal.decreases-loop-sheet
decreases-loop-sheet l = length l.parent + length l.root - (l.done.parent + l.done.root)
