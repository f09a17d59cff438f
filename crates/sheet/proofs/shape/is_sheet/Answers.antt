use borrow.Author.Rules.{rules}
use Rattle.sheet.specs.Shape.{sheet_shape}
use Rattle.sheet.proofs.ShapeLaws.{tests}
use Rattle.sheet.proofs.shape.is_sheet.Goals as goal

pub returns-then-not-counts_fit : goal.returns-then-not-counts_fit
unfolding sheet_shape
returns-then-not-counts_fit c = search (tests, rules)

pub rows_fine-requires : goal.rows_fine-requires
rows_fine-requires c = search (tests, rules)

pub returns-then-not-rows_fine : goal.returns-then-not-rows_fine
unfolding sheet_shape
returns-then-not-rows_fine c = search (tests, rules)

pub returns-then-not-pools_fit : goal.returns-then-not-pools_fit
unfolding sheet_shape
returns-then-not-pools_fit c = search (tests, rules)

pub ends_meet-requires : goal.ends_meet-requires
ends_meet-requires c = search (tests, rules)

pub returns : goal.returns
unfolding sheet_shape
returns c = search (tests, rules)
