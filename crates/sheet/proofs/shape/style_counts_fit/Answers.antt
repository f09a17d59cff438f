use borrow.Author.Rules.{rules}
use Rattle.sheet.specs.Shape.{style_counts_fit, styles_fit, style_entries_fit}
use Rattle.sheet.proofs.ShapeLaws.{tests}
use Rattle.sheet.proofs.shape.style_counts_fit.Goals as goal

pub returns-then-not-word_fits : goal.returns-then-not-word_fits
unfolding style_counts_fit styles_fit style_entries_fit
returns-then-not-word_fits c = search (tests, rules)

pub returns-then-not-word_fits-2 : goal.returns-then-not-word_fits-2
unfolding style_counts_fit styles_fit style_entries_fit
returns-then-not-word_fits-2 c = search (tests, rules)

pub returns : goal.returns
unfolding style_counts_fit styles_fit style_entries_fit
returns c = search (tests, rules)
