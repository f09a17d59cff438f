use Rattle.given.proofs.Rows.{entries_put}
use Rattle.given.proofs.held.put_entries.Goals as goal

pub returns : goal.returns
returns c =
    entries_put _ _ _ _ _ _ _ _ _ _ _ c.requires c.widen_into.ensures c.copy_into.ensures c.copy_into-2.ensures
