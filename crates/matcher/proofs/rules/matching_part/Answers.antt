use borrow.Author.Rules.{rules}
use Rattle.matcher.proofs.Listed.{part_refused, part_found}
use Rattle.matcher.proofs.rules.matching_part.Goals as goal

pub returns-in_err-check_state : goal.returns-in_err-check_state
returns-in_err-check_state c = record { answer = search (part_refused, rules) }

pub returns : goal.returns
returns c = search (part_found, rules)
