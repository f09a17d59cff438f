use Rattle.std.proofs.Common.{rules}
use Rattle.diagnosing.proofs.+diagnose_path_from_try_later.Goals as goal
use Rattle.diagnosing.proofs.Judging.{judging}

pub diagnose_path_from-returns-then-p-place : goal.diagnose_path_from-returns-then-p-place
diagnose_path_from-returns-then-p-place t c = search (judging, rules)

pub diagnose_path_from-returns-then-not-hits : goal.diagnose_path_from-returns-then-not-hits
diagnose_path_from-returns-then-not-hits t c = search (judging, rules)

pub diagnose_path_from-returns-then-is_far : goal.diagnose_path_from-returns-then-is_far
diagnose_path_from-returns-then-is_far t c = search (judging, rules)

pub diagnose_path_from-returns-else-is_far : goal.diagnose_path_from-returns-else-is_far
diagnose_path_from-returns-else-is_far t c = search (judging, rules)

pub diagnose_path_from-returns-then-after-p : goal.diagnose_path_from-returns-then-after-p
diagnose_path_from-returns-then-after-p t c = search (judging, rules)

pub diagnose_path_from-returns-else-after-p : goal.diagnose_path_from-returns-else-after-p
diagnose_path_from-returns-else-after-p t c = search (judging, rules)

pub try_later-returns-then-p-from : goal.try_later-returns-then-p-from
try_later-returns-then-p-from t c = search (judging, rules)

pub try_later-returns-in_default : goal.try_later-returns-in_default
try_later-returns-in_default t c = search (judging, rules)

pub try_later-returns-in-StepMismatch : goal.try_later-returns-in-StepMismatch
try_later-returns-in-StepMismatch t c = search (judging, rules)

pub try_later-returns-in_default-error : goal.try_later-returns-in_default-error
try_later-returns-in_default-error t c = search (judging, rules)
