use borrow.Author.Rules.{rules}
use mathlib.Core.Path.{sym}
use lib.Seq.{length-take-le}
use Rattle.table.proofs.Roots.{held_within}
use Rattle.entering.proofs.Entered.{rises_read, room_read, settled_next}
use Rattle.entering.proofs.held.settle_in.Goals as goal

pub advance-counts-requires : goal.advance-counts-requires
advance-counts-requires c =
    record { subject_value = c.requires.row_value; parent_value = (rises_read _ _ c.list_of.ensures c.requires.sheet_value.parent_up, rises_read _ _ c.list_of-2.ensures c.requires.sheet_value.root_up); room = room_read _ _ _ _ _ _ _ _ c.list_of.ensures c.list_of-2.ensures c.requires.room }

pub slice_bounds-settle-end : goal.slice_bounds-settle-end
slice_bounds-settle-end c = search (held_within, rules)

pub slice_bounds-settle-end-2 : goal.slice_bounds-settle-end-2
slice_bounds-settle-end-2 c = sym (length-take-le _ _ (held_within c.advance-counts.ensures.cursors_held_lem))

pub slice_bounds-settle-end-3 : goal.slice_bounds-settle-end-3
slice_bounds-settle-end-3 c = search (held_within, rules)

pub slice_bounds-settle-end-4 : goal.slice_bounds-settle-end-4
slice_bounds-settle-end-4 c = sym (length-take-le _ _ (held_within c.advance-counts.ensures.matched_held_lem))

pub returns : goal.returns
returns c =
    settled_next c.advance-counts.ensures _ _ _ _ _ _ _ _ _ _ c.requires.sheet_value c.list_of.ensures c.list_of-2.ensures c.settle.ensures
