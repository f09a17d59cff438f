use borrow.Author.Rules.{rules}
use Rattle.builder.proofs.Pushes.{empty_refused, empty_accepted}
use Rattle.builder.proofs.new.Goals as goal

pub returns-then-sheet-lt-SHEET_WORDS : goal.returns-then-sheet-lt-SHEET_WORDS
returns-then-sheet-lt-SHEET_WORDS c = search (empty_refused, rules)

pub returns : goal.returns
returns c = search (empty_accepted, rules)
