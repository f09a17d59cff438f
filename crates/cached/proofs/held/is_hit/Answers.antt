use borrow.Author.Rules.{rules}
use Rattle.cached.proofs.Hitting.{place_low, hit_subject, hit_other}
use Rattle.cached.proofs.held.is_hit.Goals as goal

pub returns-then-cell-parent : goal.returns-then-cell-parent
returns-then-cell-parent c = search (hit_other, rules)

pub same_subject-requires : goal.same_subject-requires
same_subject-requires c = search (place_low, rules)

pub returns : goal.returns
returns c = search (hit_subject, rules)
