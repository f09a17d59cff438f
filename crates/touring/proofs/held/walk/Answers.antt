use mathlib.Core.Path.{◌∙◌}
use Rattle.touring.proofs.Laws.{at_most_lem}
use Rattle.touring.proofs.held.walk.Goals as goal

-- `touring::held::walk` meets its contract. Assumes nothing.

pub loop-preserved : goal.loop-preserved
loop-preserved c =
    let i = c.loop.invariant in (
      at_most_lem c.turn_walk-s.ensures.0 c.input-1.given,
      c.out-1.given ∙ i.1,
      c.turn_walk-s.ensures.1,
      c.input-1.given ∙ i.3,
      c.head-1.given ∙ i.4,
      c.states-1.given ∙ i.5,
      c.cursors-1.given ∙ i.6,
      c.matched-1.given ∙ i.7,
      c.transitions-1.given ∙ i.8,
      c.items-1.given ∙ i.9,
      c.out-1.given ∙ i.10,
    )
