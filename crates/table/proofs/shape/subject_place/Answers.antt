use native.Mathlib.Omega.{arith}
use borrow.Author.Rules.{rules}
use Rattle.lent.proofs.Pool.{stride_fits, address_fits, address_is}
use Rattle.table.proofs.shape.subject_place.Goals as goal

pub overflow_mul-result : goal.overflow_mul-result
overflow_mul-result c = stride_fits _ _ (omega arith) (omega arith)

pub overflow_add-result : goal.overflow_add-result
overflow_add-result c = address_fits _ _ _ (omega arith) (omega arith) (omega arith)

pub returns : goal.returns
returns c = search (address_is, rules)
