use mathlib.Core.Path.{sym, ◌∙◌}
use borrow.Author.Rules.{rules}
use borrow.Author.Tests.{not-true, not-false}
use Rattle.steps.proofs.Answers.{step_over, subject_over, subject_unsorted, step_answered}
use Rattle.steps.proofs.SelectorStep.matches.Goals as goal

pub returns-then-not-row_fits : goal.returns-then-not-row_fits
returns-then-not-row_fits c = search (step_over, not-true, rules)

pub returns-then-not-row_fits-2 : goal.returns-then-not-row_fits-2
returns-then-not-row_fits-2 c = search (subject_over, not-true, not-false, rules)

pub returns-then-not-row_ascends : goal.returns-then-not-row_ascends
returns-then-not-row_ascends c = search (subject_unsorted, not-true, not-false, rules)

pub matches_row-requires : goal.matches_row-requires
matches_row-requires c = record { s_bound = search rules; x_value = sym c.row_ascends.ensures ∙ c.if-not-row_ascends.false }

pub returns : goal.returns
returns c = search (step_answered, not-false, rules)
