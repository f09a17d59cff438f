use borrow.Author.Rules.{rules}
use Rattle.admit.proofs.Ladders.{ladder}
use Rattle.admit.proofs.sources.check_form.Goals as goal

pub returns-then-kinds_over : goal.returns-then-kinds_over
returns-then-kinds_over c = search (ladder, rules) depth 12

pub returns-then-properties_off : goal.returns-then-properties_off
returns-then-properties_off c = search (ladder, rules) depth 12

pub returns : goal.returns
returns c = search (ladder, rules) depth 12
