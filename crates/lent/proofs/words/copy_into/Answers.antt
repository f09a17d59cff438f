use native.Mathlib.Omega.{arith}
use borrow.Author.Rules.{rules}
use Rattle.lent.proofs.Copying.{copy_start, copy_one, copy_end, copy_out}
use Rattle.lent.proofs.words.copy_into.Goals as goal

pub loop-j-init : goal.loop-j-init
loop-j-init g c = copy_start _ _ _

pub returns-then-words-at : goal.returns-then-words-at
returns-then-words-at g c = copy_out c.loop-j.invariant (omega arith)

pub returns-then-words-at-2 : goal.returns-then-words-at-2
returns-then-words-at-2 g c = copy_out c.loop-j.invariant (omega arith)

pub loop-j-preserved : goal.loop-j-preserved
loop-j-preserved g c = search (copy_one, rules)

pub returns : goal.returns
returns g c = search (copy_end, rules)
