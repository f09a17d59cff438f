use borrow.Author.Rules.{rules}
use Rattle.lookups.proofs.Accepted.{accepted}
use Rattle.lookups.proofs.Answers.{verdicts}
use Rattle.lookups.proofs.position.Goals as goal

pub returns-in_err-check_style : goal.returns-in_err-check_style
returns-in_err-check_style c = search (verdicts, rules)

pub place-at-requires : goal.place-at-requires
place-at-requires c = let a = accepted _ _ _ _ c.in_ok-check_style.ensures in search rules

pub overflow_cast-result : goal.overflow_cast-result
overflow_cast-result c = let a = accepted _ _ _ _ c.in_ok-check_style.ensures in search rules

pub returns-then-at-count : goal.returns-then-at-count
returns-then-at-count c = search (verdicts, rules)

pub returns : goal.returns
returns c = search (verdicts, rules)
