use Rattle.replies.proofs.Replying.{enter_ready, tell_ready, replies_told}
use Rattle.replies.proofs.held.reply.Goals as goal

-- `replies::held::reply` meets its contract. Assumes nothing.

pub take_enter-entered-requires : goal.take_enter-entered-requires
take_enter-entered-requires c =
    record { covered = c.requires.ready.covered; parent_bound = enter_ready _ _ _ _ _ _ _ c.requires.ready _ _ c.subject_row-row.ensures _ _ c.take_items-checked.ensures }

pub tell-used-requires : goal.tell-used-requires
tell-used-requires c =
    record { tellable = tell_ready _ _ _ _ _ _ _ c.requires.ready _ _ c.subject_row-row.ensures _ _ c.take_items-checked.ensures _ _ c.take_enter-entered.ensures c.requires.narrow; room = c.requires.room }

pub returns : goal.returns
returns c =
    replies_told _ _ _ _ _ _ _ c.requires.ready _ _ c.subject_row-row.ensures _ _ c.take_items-checked.ensures _ _ c.take_enter-entered.ensures _ _ _ _ _ c.tell-used.ensures _ c.ends.ensures
