use mathlib.Core.Path.{◌≡◌}
use mathlib.Core.Bool.{Bool, ◌&&◌}
use Prim.Native.Nat.{ℕ}
use lib.Dec.{eqb}
use borrow.Author.Tests.{ne_eqb}
use borrow.Author.Rules.{rules}
use Rattle.house.proofs.held.is_over.Goals as goal

-- `house::held::is_over` meets its contract. Assumes nothing.

none-taken : (at : ℕ) (t : Bool) → at ≡ 0 → t ≡ (eqb at 0 && t)
none-taken at t e = rw e

some-taken : (at : ℕ) (t : Bool) → (at ≡ 0 → ⊥) → eqb at 0 ≡ (eqb at 0 && t)
some-taken at t h = rw (ne_eqb at 0 h)

pub returns-then-at-eq0 : goal.returns-then-at-eq0
returns-then-at-eq0 c = search (none-taken, rules)

pub returns-else-at-eq0 : goal.returns-else-at-eq0
returns-else-at-eq0 c = some-taken _ _ c.if-at-eq0.false
