use Rattle.touring.proofs.Laws.{reaches, at_most_lem}
use Rattle.touring.proofs.held.turn_walk.Goals as goal

-- `touring::held::turn_walk` meets its contract. Assumes nothing.

pub walk_first-w-requires : goal.walk_first-w-requires
walk_first-w-requires c = record { n_in_bounds = (at_most_lem c.fill-n.ensures.1 c.input-1.given, c.requires.have_in_bounds.1); ready = c.requires.ready }

pub returns : goal.returns
returns c = (reaches c.walked.ensures c.fill-n.ensures.1, c.walk_first-w.ensures.1)
