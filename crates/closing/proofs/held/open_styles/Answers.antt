use mathlib.Core.Path.{ap}
use Rattle.gather.specs.Memory.{kind_in}
use Rattle.gather.proofs.Opening.{not_direct}
use Rattle.gather.proofs.Closing.{style_open, style_closed}
use Rattle.closing.proofs.held.open_styles.Goals as goal

pub returns-in-Direct : goal.returns-in-Direct
returns-in-Direct c = style_open _ (ap kind_in c.in-Direct.is)

pub returns-in_default : goal.returns-in_default
returns-in_default c = style_closed _ (not_direct _ c.in_default.not-Direct)
