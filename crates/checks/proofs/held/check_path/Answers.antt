use borrow.Author.Rules.{rules}
use Rattle.selector.specs.Checks.{path_verdict}
use Rattle.lent.proofs.Refusals.{firsts}
use Rattle.selector.proofs.CheckLaws.{combinators_there, places_few, first_kept, first_after}
use Rattle.checks.proofs.held.check_path.Goals as goal

pub returns-then-selector_over : goal.returns-then-selector_over
unfolding path_verdict
returns-then-selector_over c = search (firsts, rules)

pub returns-then-path_over : goal.returns-then-path_over
unfolding path_verdict
returns-then-path_over c = search (firsts, rules)

pub check_combinators-requires : goal.check_combinators-requires
check_combinators-requires c = search (combinators_there, rules)

pub returns-in_err-check_combinators : goal.returns-in_err-check_combinators
unfolding path_verdict
returns-in_err-check_combinators c = search (first_kept, firsts, rules)

pub subjects_off-requires : goal.subjects_off-requires
subjects_off-requires c = search (places_few, rules)

pub returns-then-subjects_off : goal.returns-then-subjects_off
unfolding path_verdict
returns-then-subjects_off c = search (first_after, firsts, rules)

pub returns : goal.returns
unfolding path_verdict
returns c = search (first_after, firsts, rules)
