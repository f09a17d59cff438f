-- Links: the ways through `leads`. Assumes nothing.
use mathlib.Core.Path.{◌≡◌}
use mathlib.Core.Bool.{false}
use Prim.Native.Nat.{ℕ}
use native.Mathlib.Omega.{arith}
use lib.Dec.{leb}
use borrow.Author.Tests.{lt-ltb, le-ltb}
use Rattle.table.specs.Entering.{leads}

module _ (count l : ℕ) where
  pub leads_none : l ≡ 0 → false ≡ leads count l
  unfolding leads
  leads_none e = rw (le-ltb 0 l (omega arith))

  pub leads_within : (l ≡ 0 → ⊥) → leb l count ≡ leads count l
  unfolding leads
  leads_within n = rw (lt-ltb 0 l (omega arith))
