use borrow.Author.Rules.{rules}
use Rattle.reading.proofs.Answers.{counting}
use Rattle.reading.proofs.read.rule_count.Goals as goal

pub returns-in_err-check_sheet : goal.returns-in_err-check_sheet
returns-in_err-check_sheet c = search (counting, rules)
