use Rattle.merge.proofs.Storing.{pool_put}
use Rattle.merge.proofs.held.put_pool.Goals as goal

pub returns : goal.returns
returns c =
    pool_put _ _ _ _ _ _ _ _ _ _ _ _ _ _ _ _ _ _ c.requires.2 c.requires.3
    c.wide.ensures c.wide-2.ensures c.part.ensures c.copy_into.ensures
    c.wide-3.ensures c.wide-4.ensures c.part-2.ensures c.copy_into-2.ensures
    c.wide-5.ensures c.wide-6.ensures c.part-3.ensures c.copy_into-3.ensures
