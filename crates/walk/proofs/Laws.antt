-- What the program lends. Assumes nothing.
use mathlib.Core.Path.{◌≡◌}
use Prim.Native.Nat.{ℕ, ◌≤◌}
use native.Mathlib.Omega.{arith}
use lib.ListN.{length, replicate, length-replicate}
use Rattle.given.specs.Given.{given}
use Rattle.gather.specs.Memory.{Roomy}

-- of the program's buffer
pub in_buffer : {a c : ℕ} → a ≤ length (replicate {A = ℕ} 65536 0) → c ≡ 65536 → a ≤ c
in_buffer p q = omega (arith, p, length-replicate {A = ℕ} 65536 0)

-- the lent lists
pub zeros_roomy : Roomy (given (replicate 768 0) (replicate 45056 0) (replicate 2048 0) (replicate 4096 0) (replicate 4096 0) (replicate 4096 0))
zeros_roomy = record {
  rules = length-replicate {A = ℕ} 768 0;
  steps = length-replicate {A = ℕ} 45056 0;
  combinators = length-replicate {A = ℕ} 2048 0;
  properties = length-replicate {A = ℕ} 4096 0;
  kinds = length-replicate {A = ℕ} 4096 0;
  numbers = length-replicate {A = ℕ} 4096 0;
}
