use borrow.Author.Rules.{rules}
use Rattle.matcher.proofs.Listed.{verdicts}
use Rattle.matcher.proofs.states.check_state.Goals as goal

pub returns-then-not-is_table : goal.returns-then-not-is_table
returns-then-not-is_table c = search (verdicts, rules)

pub returns-then-not_a_state : goal.returns-then-not_a_state
returns-then-not_a_state c = search (verdicts, rules)

pub returns : goal.returns
returns c = search (verdicts, rules)
