use borrow.Author.Rules.{rules}
use Rattle.reading.proofs.Answers.{styles}
use Rattle.reading.proofs.read.style_entry.Goals as goal

pub returns-in_err-check_sheet : goal.returns-in_err-check_sheet
returns-in_err-check_sheet c = search (styles, rules)

pub returns-then-list_length-i : goal.returns-then-list_length-i
returns-then-list_length-i c = search (styles, c.in_ok-check_sheet.ensures, rules)

pub overflow_add-start_of : goal.overflow_add-start_of
overflow_add-start_of c = search (styles, c.in_ok-check_sheet.ensures, rules)

pub entry_at-requires : goal.entry_at-requires
entry_at-requires c = search (styles, c.in_ok-check_sheet.ensures, rules)

pub returns : goal.returns
returns c = search (styles, c.in_ok-check_sheet.ensures, rules)
