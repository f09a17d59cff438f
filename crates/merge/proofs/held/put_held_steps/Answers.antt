use native.Mathlib.Omega.{arith}
use borrow.Author.Rules.{rules}
use Rattle.merge.proofs.Storing.{lay_none, step_small, step_asked, step_next, steps_end}
use Rattle.merge.proofs.held.put_held_steps.Goals as goal

pub loop-j-init : goal.loop-j-init
loop-j-init c = lay_none

pub overflow_add-a : goal.overflow_add-a
overflow_add-a c =
    let w = c.args.a.within in
    let h = step_small _ _ _ c.args.a.other.in_shape (omega (arith, c.word-n.ensures)) c.loop-j-test.true in
    record { fits = omega (arith, w.steps, h) }

pub put_step-requires : goal.put_step-requires
put_step-requires c =
    step_asked _ _ _ c.args.a.other.in_shape (omega (arith, c.word-n.ensures)) c.loop-j-test.true _ _ c.cell-code.ensures c.step_place.ensures

pub loop-j-preserved : goal.loop-j-preserved
loop-j-preserved c =
    step_next _ _ _ c.args.a.other.in_shape (omega (arith, c.word-n.ensures)) c.loop-j-test.true _ _ _ _ _ _ c.loop-j.invariant c.cell-code.ensures c.step_place.ensures c.put_step.ensures

pub returns : goal.returns
returns c = search (steps_end, rules)
