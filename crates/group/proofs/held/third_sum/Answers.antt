use native.Mathlib.Omega.{arith}
use borrow.Author.Rules.{rules}
use Rattle.group.proofs.Writing.{third_start, third_more, third_end}
use Rattle.group.proofs.held.third_sum.Goals as goal

pub loop-k-init : goal.loop-k-init
loop-k-init c = search (third_start, rules)

pub loop-k-preserved : goal.loop-k-preserved
loop-k-preserved c = search (third_more, rules)

pub returns : goal.returns
returns c = third_end c.loop-k.invariant (omega arith)
