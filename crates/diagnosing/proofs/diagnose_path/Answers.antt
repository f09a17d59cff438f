use borrow.Author.Rules.{rules}
use Rattle.matching.proofs.Answers.{accepted}
use Rattle.diagnosing.proofs.Answers.{answers}
use Rattle.diagnosing.proofs.diagnose_path.Goals as goal

-- `diagnosing::diagnose_path` meets its contract. Assumes nothing.

pub returns-in_err-check_path : goal.returns-in_err-check_path
returns-in_err-check_path c = search (answers, rules)

pub returns-then-path_count-eq0 : goal.returns-then-path_count-eq0
returns-then-path_count-eq0 c = search (answers, rules)

pub returns-then-step_count-eq0 : goal.returns-then-step_count-eq0
returns-then-step_count-eq0 c = search (answers, rules)

pub invariant_of-p : goal.invariant_of-p
invariant_of-p c =
    let a = accepted _ _ _ _ _ _ c.in_ok-check_path.ensures in
    record { steps_few = a.steps_few; places_few = a.places_few; sorted = a.sorted }

pub returns : goal.returns
returns c = search (answers, rules)
