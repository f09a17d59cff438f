use Rattle.lines.proofs.Laws.{Reading}
use Rattle.lines.proofs.words.Given as goal

abbrev pub invariant-loop-i : goal.invariant-loop-i
invariant-loop-i l = Reading l.bytes l.initial.into l.i l.into
