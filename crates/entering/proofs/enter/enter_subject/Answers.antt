use borrow.Author.Rules.{rules}
use Rattle.entering.proofs.Fronts.{front_passed, refused_told, enter_refused, enter_entered, enter_full}
use Rattle.entering.proofs.enter.enter_subject.Goals as goal

pub returns-in_err-check_front : goal.returns-in_err-check_front
returns-in_err-check_front c =
    let e = c.in_err-check_front.ensures in
    let q = c.row-row.ensures in
    enter_refused _ _ _ _ _ _ e _ q _ (search (refused_told, rules))

pub invariant_of-sheet : goal.invariant_of-sheet
invariant_of-sheet c = let asked = front_passed _ _ _ _ _ _ _ _ _ c.in_ok-check_front.ensures in record { in_shape = asked.0.0 }

pub enter_subject-requires : goal.enter_subject-requires
enter_subject-requires c =
    let (s, r) = front_passed _ _ _ _ _ _ _ _ _ c.in_ok-check_front.ensures in
    let (_, t, p) = s in
    record { sheet_value = (t, p); row_value = r }

pub returns-in_err-number : goal.returns-in_err-number
returns-in_err-number c =
    enter_full _ _ _ _ _ c.in_ok-check_front.ensures _ c.row-row.ensures _ _ c.enter_subject.ensures c.in_err-number.field-0.0 c.in_err-number.ensures.value _ (search rules)

pub returns : goal.returns
returns c = enter_entered _ _ _ _ _ c.in_ok-check_front.ensures _ c.row-row.ensures _ _ c.enter_subject.ensures _ c.in_ok-number.ensures.value
