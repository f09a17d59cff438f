use borrow.Author.Rules.{rules}
use Rattle.lookups.proofs.Accepted.{accepted}
use Rattle.lookups.proofs.Answers.{verdicts}
use Rattle.lookups.proofs.contains.Goals as goal

pub returns-in_err-check_style : goal.returns-in_err-check_style
returns-in_err-check_style c = search (verdicts, rules)

pub place-requires : goal.place-requires
place-requires c = let a = accepted _ _ _ _ c.in_ok-check_style.ensures in search rules

pub returns : goal.returns
returns c = search (verdicts, rules)
