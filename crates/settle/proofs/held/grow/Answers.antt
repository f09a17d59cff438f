use borrow.Author.Rules.{rules}
use Rattle.table.proofs.Rooms.{room_for_lem}
use Rattle.settle.proofs.Growing.{grown_is}
use Rattle.settle.proofs.held.grow.Goals as goal

pub overflow_add-count : goal.overflow_add-count
overflow_add-count c = let r = room_for_lem _ _ _ _ _ c.requires in search rules

pub overflow_cast-cursor_end : goal.overflow_cast-cursor_end
overflow_cast-cursor_end c = let r = room_for_lem _ _ _ _ _ c.requires in search rules

pub overflow_add-cursor_end : goal.overflow_add-cursor_end
overflow_add-cursor_end c = let r = room_for_lem _ _ _ _ _ c.requires in search rules

pub overflow_cast-matched_end : goal.overflow_cast-matched_end
overflow_cast-matched_end c = let r = room_for_lem _ _ _ _ _ c.requires in search rules

pub overflow_add-matched_end : goal.overflow_add-matched_end
overflow_add-matched_end c = let r = room_for_lem _ _ _ _ _ c.requires in search rules

pub returns : goal.returns
returns c = search (grown_is, rules)
