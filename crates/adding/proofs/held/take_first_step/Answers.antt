use mathlib.Core.Path.{refl}
use Rattle.adding.proofs.Steps.{step_first_code, step_first}
use Rattle.adding.proofs.held.take_first_step.Goals as goal

pub returns-then-code-gt0 : goal.returns-then-code-gt0
returns-then-code-gt0 c =
    step_first_code _ _ _ _ _ _ _ c.requires.sound c.requires.kind_value.1 c.requires.kind_value.0 c.args.code _ c.requires.kind_value.2 c.if-code-gt0.true refl

pub returns : goal.returns
returns c =
    step_first _ _ _ _ _ _ _ c.requires.sound c.requires.kind_value.1 c.requires.kind_value.0 c.args.code _ c.requires.kind_value.2 c.if-code-gt0.false _ _ c.put.ensures c.copy_into.ensures refl
