use Rattle.entering.proofs.Entered.{parents_there, entered_cached, entered_new, entered_none}
use Rattle.entering.proofs.held.enter_subject.Goals as goal

pub returns-in-Some : goal.returns-in-Some
returns-in-Some c = entered_cached _ _ _ _ _ _ _ _ _ _ c.in-Some.ensures c.cell.ensures

pub settle_next-requires : goal.settle_next-requires
settle_next-requires c = let q = c.requires in record { sheet_value = parents_there _ _ _ _ _ _ _ (c.args.sheet.in_shape, q.sheet_value.0, q.sheet_value.1); row_value = q.row_value.1 }

pub returns-in_err-child : goal.returns-in_err-child
returns-in_err-child c = entered_none _ _ _ _ _ _ _ _ c.in_default.ensures _ _ _ _ _ c.settle_next.ensures c.in_err-child.was _ c.from_residual.ensures

pub returns : goal.returns
returns c = entered_new _ _ _ _ _ _ _ _ c.in_default.ensures _ _ _ _ _ c.settle_next.ensures _ c.in_ok-child.was _ _ _ c.keep.ensures
