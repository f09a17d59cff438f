use native.Mathlib.Omega.{arith}
use Rattle.merge.proofs.Storing.{style_numbers_lem, style_put}
use Rattle.merge.proofs.held.put_held_style.Goals as goal

pub overflow_add-a : goal.overflow_add-a
overflow_add-a c =
    let w = c.args.a.within in
    let r = style_numbers_lem _ _ c.args.a.other.in_shape c.requires in
    record { fits = omega (arith, w.styles, r.here) }

pub overflow_add-row : goal.overflow_add-row
overflow_add-row c =
    let w = c.args.a.within in
    let r = style_numbers_lem _ _ c.args.a.other.in_shape c.requires in
    record { fits = omega (arith, w.next, r.source, c.cell-2.ensures) }

pub overflow_add-row-2 : goal.overflow_add-row-2
overflow_add-row-2 c =
    let w = c.args.a.within in
    let r = style_numbers_lem _ _ c.args.a.other.in_shape c.requires in
    record { fits = omega (arith, w.style_entries_lem, r.entries, c.cell-3.ensures) }

pub put_row-requires : goal.put_row-requires
put_row-requires c =
    let w = c.args.a.within in
    let r = style_numbers_lem _ _ c.args.a.other.in_shape c.requires in
    (omega (arith, w.styles, r.here, c.wide.ensures), omega arith)

pub returns : goal.returns
returns c =
    style_put c.args.a.c _ c.args.sheet.now _ _ _ _ _ _ c.wide.ensures c.cell.ensures c.cell-2.ensures c.cell-3.ensures c.put_row.ensures
