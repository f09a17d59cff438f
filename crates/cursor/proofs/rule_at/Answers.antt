use Rattle.cursor.proofs.Yielding.{looked_up}
use Rattle.cursor.proofs.rule_at.Goals as goal

pub returns : goal.returns
returns c = rw c.copied.ensures (looked_up _ _ _ c.get.ensures.lookup.0 c.get.ensures.lookup.1)
