use Rattle.joining.proofs.Largest.{index_is}
use Rattle.joining.proofs.cascades.largest_index.Goals as goal

pub returns : goal.returns
returns c = index_is _ _ _ _ _ c.largest_in-a.ensures c.largest_in-b.ensures c.word.ensures c.word-2.ensures _ c.max.ensures
