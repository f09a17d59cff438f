use borrow.Author.Rules.{rules}
use Rattle.reading.proofs.Answers.{verdicts}
use Rattle.reading.proofs.read.check_rule.Goals as goal

pub returns-in_err-check_sheet : goal.returns-in_err-check_sheet
returns-in_err-check_sheet c = search (verdicts, rules)

pub returns-then-word-number : goal.returns-then-word-number
returns-then-word-number c = search (verdicts, rules)

pub returns : goal.returns
returns c = search (verdicts, rules)
