use borrow.Author.Rules.{rules}
use native.Mathlib.Omega.{arith}
use Rattle.lent.proofs.Pool.{stride_fits}
use Rattle.table.proofs.ShapeLaws.{leb_rows}
use Rattle.table.proofs.shape.rows_held.Goals as goal

pub overflow_mul-result : goal.overflow_mul-result
overflow_mul-result c = stride_fits _ _ (omega arith) (omega arith)

pub returns : goal.returns
returns c = search (leb_rows, rules)
