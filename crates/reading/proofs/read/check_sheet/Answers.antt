use borrow.Author.Rules.{rules}
use Rattle.reading.proofs.Answers.{verdicts}
use Rattle.reading.proofs.read.check_sheet.Goals as goal

pub returns-then-not-is_sheet : goal.returns-then-not-is_sheet
returns-then-not-is_sheet c = search (verdicts, rules)

pub returns : goal.returns
returns c = search (verdicts, rules)
