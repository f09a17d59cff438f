use borrow.Author.Rules.{rules}
use Rattle.entering.proofs.Entered.{few_both, room_small, room_large}
use Rattle.entering.proofs.held.settle_next.Goals as goal

pub settle_in-requires : goal.settle_in-requires
settle_in-requires c =
    let q = c.requires in
    record { sheet_value = q.sheet_value; row_value = q.row_value; room = room_small _ _ _ _ _ _ (few_both _ _ _ c.are_few.ensures c.if-are_few.true) (search rules) (search rules) }

pub settle_in-requires-2 : goal.settle_in-requires-2
settle_in-requires-2 c = let q = c.requires in record { sheet_value = q.sheet_value; row_value = q.row_value; room = room_large _ _ _ _ _ _ c.args.sheet.in_shape (search rules) (search rules) }
