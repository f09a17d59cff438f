use Rattle.sheet.specs.Layout.{step_place}
use Rattle.sheet.specs.Sheets.{part_at}
use Rattle.sheet.specs.Laying.{step_words}
use Rattle.merge.proofs.Storing.{Laying}
use Rattle.merge.proofs.held.put_held_steps.Given as goal

abbrev pub invariant-loop-j : goal.invariant-loop-j
invariant-loop-j l = Laying (λ i. step_words (part_at l.a.other.words.now i)) (step_place l.a.c.steps) l.n l.initial.sheet l.j l.sheet
