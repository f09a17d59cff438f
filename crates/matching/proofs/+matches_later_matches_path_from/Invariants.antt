-- The measure is twice the path left, and one more for a search. Assumes nothing.
use Rattle.std.proofs.Common.{◌+◌, ◌-◌, ◌*◌}
use Rattle.matching.proofs.+matches_later_matches_path_from.Given as goal

abbrev pub decreases-matches_later : goal.decreases-matches_later
decreases-matches_later l = 2 * (l.p.m - l.from) + 1

abbrev pub decreases-matches_path_from : goal.decreases-matches_path_from
decreases-matches_path_from l = 2 * (l.p.m - l.place)
