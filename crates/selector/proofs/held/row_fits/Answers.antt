use borrow.Author.Rules.{rules}
use Rattle.selector.proofs.CheckLaws.{classes_over, pseudos_fit_lem}
use Rattle.selector.proofs.held.row_fits.Goals as goal

pub returns-then-size-word : goal.returns-then-size-word
returns-then-size-word c = search (classes_over, rules)

pub returns : goal.returns
returns c = search (pseudos_fit_lem, rules)
