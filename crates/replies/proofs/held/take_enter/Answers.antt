use borrow.Author.Rules.{rules}
use Rattle.replies.proofs.Replying.{steps_refused, steps_none, steps_lacks, steps_enter, enter_fine}
use Rattle.replies.proofs.held.take_enter.Goals as goal

-- `replies::held::take_enter` meets its contract. Assumes nothing.

pub returns-in_err-checked : goal.returns-in_err-checked
returns-in_err-checked c = steps_refused _ _ _ _ _ c.in_err-checked.was (search rules)

pub returns-then-kind-ne10 : goal.returns-then-kind-ne10
returns-then-kind-ne10 c = steps_none _ _ _ _ _ c.in_ok-checked.was c.if-kind-ne10.true

pub invariant_of-sheet : goal.invariant_of-sheet
invariant_of-sheet c =
    let asked = enter_fine _ _ _ _ c.in_ok-checked.was c.if-kind-ne10.false c.requires.covered c.requires.parent_bound in
    record { in_shape = asked.0.0 }

pub enter_subject-requires : goal.enter_subject-requires
enter_subject-requires c =
    let (s, r) = enter_fine _ _ _ _ c.in_ok-checked.was c.if-kind-ne10.false c.requires.covered c.requires.parent_bound in
    let (_, t, p) = s in
    record { sheet_value = (t, p); row_value = r }

pub returns-in_default : goal.returns-in_default
returns-in_default c = steps_lacks _ _ _ _ _ c.in_ok-checked.was c.if-kind-ne10.false c.enter_subject.ensures (search rules)

pub returns : goal.returns
returns c = steps_enter _ _ _ _ _ c.in_ok-checked.was c.if-kind-ne10.false c.enter_subject.ensures c.in-Some.is
