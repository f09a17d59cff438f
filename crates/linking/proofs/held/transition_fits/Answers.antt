use native.Mathlib.Omega.{arith}
use borrow.Author.Rules.{rules}
use Rattle.lent.proofs.Pool.{stride_fits}
use Rattle.linking.proofs.Linking.{no_number, fits_here}
use Rattle.linking.proofs.held.transition_fits.Goals as goal

pub returns-then-n-eq4294967295 : goal.returns-then-n-eq4294967295
returns-then-n-eq4294967295 c = search (no_number, rules)

pub overflow_mul-result : goal.overflow_mul-result
overflow_mul-result c = stride_fits _ _ (omega arith) (omega arith)

pub returns : goal.returns
returns c = search (fits_here, rules)
