use borrow.Author.Rules.{rules}
use native.Mathlib.Omega.{arith}
use Rattle.given.specs.Pushing.{sums_over}
use Rattle.joining.proofs.Sums.{sums}
use Rattle.joining.proofs.cascades.sums_over.Goals as goal

-- src/cascades.rt:28:8

-- src/cascades.rt:29:9

-- src/cascades.rt:31:8

-- src/cascades.rt:32:9

-- src/cascades.rt:34:8

-- src/cascades.rt:35:9

-- src/cascades.rt:37:12

-- src/cascades.rt:37:33

-- src/cascades.rt:37:12

-- src/cascades.rt:25:1

pub returns-then-sum_over : goal.returns-then-sum_over
unfolding sums_over
returns-then-sum_over c = search (sums, rules) depth 12

pub returns-then-sum_over-2 : goal.returns-then-sum_over-2
unfolding sums_over
returns-then-sum_over-2 c = search (sums, rules) depth 12

pub returns-then-sum_over-3 : goal.returns-then-sum_over-3
unfolding sums_over
returns-then-sum_over-3 c = search (sums, rules) depth 12

pub overflow_add-result : goal.overflow_add-result
overflow_add-result c =
    let a = c.shared_slice_known-1.given in
    let b = c.shared_slice_known-2-1.given in
    omega (arith, a 3, a 5, b 3, b 5)

pub returns : goal.returns
unfolding sums_over
returns c = search (sums, rules) depth 12
