-- The measure is twice the path left, and one more for a search. Assumes nothing.
use Rattle.std.proofs.Common.{◌+◌, ◌-◌, ◌*◌}
use Rattle.diagnosing.proofs.+diagnose_path_from_try_later.Given as goal

abbrev pub decreases-diagnose_path_from : goal.decreases-diagnose_path_from
decreases-diagnose_path_from l = 2 * (l.p.m - l.place)

abbrev pub decreases-try_later : goal.decreases-try_later
decreases-try_later l = 2 * (l.p.m - l.from) + 1
