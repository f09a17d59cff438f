use Rattle.changes.specs.Asked.{differing}
use Rattle.changes.proofs.Picking.{Picking}
use Rattle.changes.proofs.held.pick.Given as goal

abbrev pub invariant-loop-id : goal.invariant-loop-id
invariant-loop-id l = Picking (differing l.sheet.words.now l.ranking l.old l.new) l.ids l.initial.into l.id-index l.n l.into
