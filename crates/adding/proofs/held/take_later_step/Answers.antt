use mathlib.Core.Path.{refl}
use Rattle.adding.proofs.Steps.{step_later_code, step_over, step_later, ties_read}
use Rattle.adding.proofs.held.take_later_step.Goals as goal

pub returns-then-code-gt1 : goal.returns-then-code-gt1
returns-then-code-gt1 c =
    step_later_code _ _ _ _ _ _ _ c.requires.sound c.requires.kind_value.1 c.requires.kind_value.0 c.args.code _ _ c.requires.kind_value.2 c.requires.kind_value.3 c.if-code-gt1.true refl

pub returns-then-n-ge8 : goal.returns-then-n-ge8
returns-then-n-ge8 c =
    step_over _ _ _ _ _ _ _ c.requires.sound c.requires.kind_value.1 c.requires.kind_value.0 c.args.code _ _ c.requires.kind_value.2 c.if-code-gt1.false c.if-n-ge8.true refl

pub overflow_add-word : goal.overflow_add-word
overflow_add-word c =
    ties_read _ _ _ _ _ _ _ c.requires.sound c.requires.kind_value.1 _ c.requires.kind_value.2 _ _ c.put.ensures c.word.ensures

pub returns : goal.returns
returns c =
    step_later _ _ _ _ _ _ _ c.requires.sound c.requires.kind_value.1 c.requires.kind_value.0 c.args.code _ _ c.requires.kind_value.2 c.requires.kind_value.3 c.if-code-gt1.false c.if-n-ge8.false _ _ _ _ _ c.put.ensures c.word.ensures c.put-2.ensures c.copy_into.ensures c.put-3.ensures refl
