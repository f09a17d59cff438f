use mathlib.Core.Path.{sym}
use native.Mathlib.Omega.{arith}
use lib.Seq.{length-take-le}
use borrow.Author.Tests.{le-leb, lt-leb}
use Rattle.screen.proofs.send.Goals as goal

-- `screen::send` meets its contract. Assumes nothing.

pub returns-then-used-least : goal.returns-then-used-least
returns-then-used-least c = rw (le-leb _ _ c.if-used-least.true)

pub slice_bounds-write_all-end : goal.slice_bounds-write_all-end
slice_bounds-write_all-end c = sym (length-take-le _ _ (omega arith))

pub returns-then-used-out : goal.returns-then-used-out
returns-then-used-out c = rw (lt-leb _ _ c.if-used-least.false)

pub returns-else-used-out : goal.returns-else-used-out
returns-else-used-out c = rw (lt-leb _ _ c.if-used-least.false)
