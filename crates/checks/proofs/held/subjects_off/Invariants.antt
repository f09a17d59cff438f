use Rattle.lent.proofs.All.{Sofar}
use Rattle.selector.specs.Rows.{subject_at}
use Rattle.selector.specs.Checks.{tags_ascend}
use Rattle.checks.proofs.held.subjects_off.Given as goal

abbrev pub invariant-loop-i : goal.invariant-loop-i
invariant-loop-i l = Sofar (λ k. tags_ascend (subject_at l.path k)) l.m l.i
