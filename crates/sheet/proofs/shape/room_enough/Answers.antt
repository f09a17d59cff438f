use borrow.Author.Rules.{rules}
use Rattle.sheet.specs.Shape.{room_enough}
use Rattle.sheet.proofs.shape.room_enough.Goals as goal

pub returns : goal.returns
unfolding room_enough
returns c = search rules
