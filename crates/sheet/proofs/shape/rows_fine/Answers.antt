use borrow.Author.Rules.{rules}
use Rattle.sheet.specs.Shape.{rows_fine}
use Rattle.sheet.proofs.ShapeLaws.{tests, all_read}
use Rattle.sheet.proofs.Shaped.{counts_steps}
use Rattle.sheet.proofs.shape.rows_fine.Goals as goal

pub returns-then-not-rules_fine : goal.returns-then-not-rules_fine
unfolding rows_fine
returns-then-not-rules_fine c = search (tests, all_read, rules)

pub steps_fine-requires : goal.steps_fine-requires
steps_fine-requires c = search (counts_steps, rules)

pub returns-then-not-steps_fine : goal.returns-then-not-steps_fine
unfolding rows_fine
returns-then-not-steps_fine c = search (tests, all_read, rules)

pub returns : goal.returns
unfolding rows_fine
returns c = search (tests, all_read, rules)
