use native.Mathlib.Omega.{arith}
use borrow.Author.Rules.{rules}
use Rattle.lent.proofs.Pool.{stride_fits}
use Rattle.finding.proofs.Room.{room_many, room_rows, room_cursors, room_is}
use Rattle.finding.proofs.held.room_for.Goals as goal

pub returns-then-n-ge512 : goal.returns-then-n-ge512
returns-then-n-ge512 c = search (room_many, rules)

pub overflow_mul-wide : goal.overflow_mul-wide
overflow_mul-wide c = stride_fits _ _ (omega arith) (omega arith)

pub returns-then-states-wide : goal.returns-then-states-wide
returns-then-states-wide c = search (room_rows, rules)

pub returns-then-not-fits : goal.returns-then-not-fits
returns-then-not-fits c = search (room_cursors, rules)

pub returns : goal.returns
returns c = search (room_is, rules)
