use borrow.Author.Rules.{rules}
use mathlib.Core.Path.{refl}
use Rattle.looking.proofs.Verdicts.{state_passed, state_refused, state_told}
use Rattle.looking.proofs.Winners.{nobody_told, style_told_lem, rule_told_lem}
use Rattle.looking.proofs.look.winning_source_for_id.Goals as goal

pub invariant_of-sheet : goal.invariant_of-sheet
invariant_of-sheet c = let (e, l) = state_passed _ _ _ _ _ _ _ _ _ c.in_ok-check_state.ensures refl in record { in_shape = e.0 }

pub winning_source-best-requires : goal.winning_source-best-requires
winning_source-best-requires c = let (e, l) = state_passed _ _ _ _ _ _ _ _ _ c.in_ok-check_state.ensures refl in record { sheet_value = e.1; number_bound = l }

pub returns-in_err-check_state : goal.returns-in_err-check_state
returns-in_err-check_state c = search (state_refused, rules)

pub returns-in_default : goal.returns-in_default
returns-in_default c = state_told _ _ _ _ _ _ _ _ c.in_ok-check_state.ensures (nobody_told c.winning_source-best.ensures c.in_default.is)

pub returns-in-Style : goal.returns-in-Style
returns-in-Style c = state_told _ _ _ _ _ _ _ _ c.in_ok-check_state.ensures (style_told_lem c.winning_source-best.ensures c.in-Some.is c.in-Style.is)

pub returns-in-Rule : goal.returns-in-Rule
returns-in-Rule c = state_told _ _ _ _ _ _ _ _ c.in_ok-check_state.ensures (rule_told_lem c.winning_source-best.ensures c.in-Some.is c.in-Rule.is)
