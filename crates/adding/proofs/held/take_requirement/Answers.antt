use mathlib.Core.Path.{refl, sym, ◌∙◌}
use borrow.Author.Tests.{not-true, not-false}
use Rattle.adding.proofs.Requiring.{step_tested, stepless, which_refused}
use mathlib.Core.Path.{ap}
use mathlib.Core.Bool.{not}
use Rattle.adding.proofs.held.take_requirement.Goals as goal

pub returns-then-not-in_step : goal.returns-then-not-in_step
returns-then-not-in_step c =
    stepless _ _ c.requires.sound c.args.sheet.now c.args.which c.args.id _ _ c.in_step.ensures (not-true _ (ap not c.if-not-in_step.true)) refl

pub returns-then-which-gt3 : goal.returns-then-which-gt3
returns-then-which-gt3 c =
    which_refused _ _ c.requires.sound c.args.sheet.now c.args.which c.args.id _ _ c.in_step.ensures (not-false _ (ap not c.if-not-in_step.false)) c.if-which-gt3.true refl refl refl

pub put_requirement-requires : goal.put_requirement-requires
put_requirement-requires c =
    record { sheet_value = c.requires.sheet_value; sound = c.requires.sound; numbers_value = (sym (step_tested _ _ c.requires.sound _ c.in_step.ensures) ∙ not-false _ (ap not c.if-not-in_step.false), c.if-which-gt3.false) }
