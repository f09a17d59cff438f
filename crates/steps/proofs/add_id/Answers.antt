use borrow.Author.Tests.{le-ltb, lt-ltb}
use Rattle.std.proofs.Common.{refl}
use Rattle.steps.proofs.add_id.Goals as goal

pub returns-then-n-ge8 : goal.returns-then-n-ge8
returns-then-n-ge8 g c = record { kept = rw (le-ltb _ 8 c.if-n-ge8.true) refl; count = rw (le-ltb _ 8 c.if-n-ge8.true) refl }

pub returns : goal.returns
returns g c = record { kept = rw (lt-ltb _ 8 c.if-n-ge8.false, c.wide.ensures) refl; count = rw (lt-ltb _ 8 c.if-n-ge8.false) refl }
