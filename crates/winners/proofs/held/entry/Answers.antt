use native.Mathlib.Omega.{arith}
use Rattle.winners.proofs.Finding.{style_place, rule_place, finds_style, finds_rule, finds_nobody}
use Rattle.winners.proofs.held.entry.Goals as goal

pub entry_in-requires : goal.entry_in-requires
entry_in-requires c =
    let q = style_place _ _ _ _ c.in_ok-d.was c.args.sheet.in_shape c.requires c.in-Style.is in
    record { base_bound = (omega arith, omega arith, q.0); k_value = q.1 }

pub entry_in-requires-in-Rule : goal.entry_in-requires-in-Rule
entry_in-requires-in-Rule c =
    let q = rule_place _ _ _ _ c.in_ok-d.was c.args.sheet.in_shape c.requires c.in-Rule.is in
    record { base_bound = (omega arith, omega arith, q.0); k_value = q.1 }

pub returns-in_err-d : goal.returns-in_err-d
returns-in_err-d c = rw c.from_residual.ensures (finds_nobody _ _ _ c.in_err-d.was)

pub returns-in-Style : goal.returns-in-Style
returns-in-Style c = finds_style _ _ _ _ c.in_ok-d.was _ _ c.in-Style.is c.entry_in.ensures

pub returns-in-Rule : goal.returns-in-Rule
returns-in-Rule c = finds_rule _ _ _ _ c.in_ok-d.was _ _ c.in-Rule.is c.entry_in-in-Rule.ensures
