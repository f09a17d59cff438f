use mathlib.Core.Path.{ap, ◌∙◌, sym}
use Rattle.theory.proofs.Ordered.{sign}
use Rattle.keys.proofs.Order.{key_order}
use Rattle.keys.proofs.CascadeEntryKey.compare.Goals as goal

pub returns-in-Less : goal.returns-in-Less
returns-in-Less c = ap sign (sym c.in-Less.is ∙ c.cmp.ensures) ∙ key_order _ _

pub returns-in-Equal : goal.returns-in-Equal
returns-in-Equal c = ap sign (sym c.in-Equal.is ∙ c.cmp.ensures) ∙ key_order _ _

pub returns-in-Greater : goal.returns-in-Greater
returns-in-Greater c = ap sign (sym c.in-Greater.is ∙ c.cmp.ensures) ∙ key_order _ _
