-- What a set laid into a buffer is known for. Assumes nothing.
use Rattle.std.specs.Prelude.{◌≡◌, true, List, ℕ, ◌≤◌, length, take}
use Rattle.theory.specs.Lists.{ascends}

-- the first n of the buffer ascend, and are no more than a body has
pub record Set (ids : List ℕ) (n : ℕ) : Type 0 where
  pub within : n ≤ length ids
  pub few : n ≤ 4096
  pub up : ascends (take n ids) ≡ true
