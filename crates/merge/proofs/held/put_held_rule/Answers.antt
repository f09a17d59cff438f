use native.Mathlib.Omega.{arith}
use Rattle.merge.proofs.Storing.{rule_numbers_lem, rule_put}
use Rattle.merge.proofs.held.put_held_rule.Goals as goal

pub overflow_add-a : goal.overflow_add-a
overflow_add-a c =
    let w = c.args.a.within in
    let r = rule_numbers_lem _ _ c.args.a.other.in_shape c.requires in
    record { fits = omega (arith, w.rules, r.here) }

pub overflow_add-row : goal.overflow_add-row
overflow_add-row c =
    let w = c.args.a.within in
    let r = rule_numbers_lem _ _ c.args.a.other.in_shape c.requires in
    record { fits = omega (arith, w.next, r.source, c.cell-2.ensures) }

pub overflow_add-row-2 : goal.overflow_add-row-2
overflow_add-row-2 c =
    let w = c.args.a.within in
    let r = rule_numbers_lem _ _ c.args.a.other.in_shape c.requires in
    record { fits = omega (arith, w.steps, r.steps, c.cell-4.ensures) }

pub overflow_add-row-3 : goal.overflow_add-row-3
overflow_add-row-3 c =
    let w = c.args.a.within in
    let r = rule_numbers_lem _ _ c.args.a.other.in_shape c.requires in
    record { fits = omega (arith, w.entries, r.entries, c.cell-5.ensures) }

pub put_row-requires : goal.put_row-requires
put_row-requires c =
    let w = c.args.a.within in
    let r = rule_numbers_lem _ _ c.args.a.other.in_shape c.requires in
    (omega (arith, w.rules, r.here, c.wide.ensures), omega arith)

pub returns : goal.returns
returns c = search (rule_put, c.wide.ensures, c.cell.ensures, c.cell-2.ensures, c.cell-3.ensures, c.cell-4.ensures, c.cell-5.ensures, c.put_row.ensures)
