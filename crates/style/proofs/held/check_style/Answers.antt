use borrow.Author.Rules.{rules}
use Rattle.style.specs.Checks.{style_verdict}
use Rattle.lent.proofs.Refusals.{firsts}
use Rattle.style.proofs.CheckLaws.{within}
use Rattle.style.proofs.held.check_style.Goals as goal

pub returns-then-entries_over : goal.returns-then-entries_over
unfolding style_verdict
returns-then-entries_over c = search (firsts, rules)

pub kinds_over-requires : goal.kinds_over-requires
kinds_over-requires c = let a = within _ _ _ _ _ c.entries_over.ensures c.if-entries_over.false in search rules

pub returns-then-kinds_over : goal.returns-then-kinds_over
unfolding style_verdict
returns-then-kinds_over c = search (firsts, rules)

pub properties_off-requires : goal.properties_off-requires
properties_off-requires c = let a = within _ _ _ _ _ c.entries_over.ensures c.if-entries_over.false in search rules

pub returns-then-properties_off : goal.returns-then-properties_off
unfolding style_verdict
returns-then-properties_off c = search (firsts, rules)

pub returns : goal.returns
unfolding style_verdict
returns c = search (firsts, rules)
