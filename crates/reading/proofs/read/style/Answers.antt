use borrow.Author.Rules.{rules}
use Rattle.reading.proofs.Answers.{styles}
use Rattle.reading.proofs.read.style.Goals as goal

pub returns-in_err-check_sheet : goal.returns-in_err-check_sheet
returns-in_err-check_sheet c = search (styles, rules)
