use mathlib.Core.Path.{ap, sym, ◌∙◌}
use Rattle.table.specs.Calls.{broken}
use Rattle.table.specs.Lent.{lent}
use Rattle.table.specs.Shape.{table_shape}
use Rattle.table.proofs.ShapeLaws.{not_broken}
use Rattle.table.proofs.shape.is_table.Goals as goal

pub returns-in_default : goal.returns-in_default
unfolding broken
returns-in_default c = rw (sym c.in_default.ensures.there)

pub returns : goal.returns
unfolding broken
returns c = rw (sym c.in-Some.ensures.there) (not_broken _ _ (c.fits_sheet.ensures ∙ ap (λ s. table_shape s.now (lent c.args.t)) c.in-Some.ensures.same))
