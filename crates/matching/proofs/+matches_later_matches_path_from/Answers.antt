use Rattle.std.proofs.Common.{rules}
use Rattle.matching.proofs.+matches_later_matches_path_from.Goals as goal
use Rattle.matching.proofs.Ways.{matching}

pub matches_later-returns-then-p-from : goal.matches_later-returns-then-p-from
matches_later-returns-then-p-from t c = search (matching, rules)

pub matches_later-returns-then-matches_path_from :
    goal.matches_later-returns-then-matches_path_from
matches_later-returns-then-matches_path_from t c = search (matching, rules)

pub matches_later-returns : goal.matches_later-returns
matches_later-returns t c = search (matching, rules)

pub matches_path_from-returns-then-p-place : goal.matches_path_from-returns-then-p-place
matches_path_from-returns-then-p-place t c = search (matching, rules)

pub matches_path_from-returns-then-not-hits : goal.matches_path_from-returns-then-not-hits
matches_path_from-returns-then-not-hits t c = search (matching, rules)

pub matches_path_from-returns-then-is_far : goal.matches_path_from-returns-then-is_far
matches_path_from-returns-then-is_far t c = search (matching, rules)

pub matches_path_from-returns-else-is_far : goal.matches_path_from-returns-else-is_far
matches_path_from-returns-else-is_far t c = search (matching, rules)

pub matches_path_from-returns-else-next-p : goal.matches_path_from-returns-else-next-p
matches_path_from-returns-else-next-p t c = search (matching, rules)
