use borrow.Author.Rules.{rules}
use Rattle.selector.proofs.CheckLaws.{over_places, over_place_rows, over_place_last}
use Rattle.checks.proofs.held.path_over.Goals as goal

pub returns-then-m-gt32 : goal.returns-then-m-gt32
returns-then-m-gt32 c = search (over_places, rules)

pub returns-then-path-m : goal.returns-then-path-m
returns-then-path-m c = search (over_place_rows, rules)

pub returns : goal.returns
returns c = search (over_place_last, rules)
