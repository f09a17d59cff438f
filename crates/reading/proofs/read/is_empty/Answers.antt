use borrow.Author.Rules.{rules}
use Rattle.reading.proofs.Answers.{empties}
use Rattle.reading.proofs.read.is_empty.Goals as goal

pub returns-in_err-check_sheet : goal.returns-in_err-check_sheet
returns-in_err-check_sheet c = search (empties, rules)

pub returns-then-word-ne0 : goal.returns-then-word-ne0
returns-then-word-ne0 c = search (empties, rules)

pub returns : goal.returns
returns c = search (empties, rules)
