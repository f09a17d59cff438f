-- What the turns keep. For contracts within and cores alone. Assumes nothing.
use Rattle.std.specs.Prelude.{◌≡◌, true, List, ℕ, ◌≤◌}
use Rattle.sheet.specs.Shape.{sheet_shape}
use Rattle.given.specs.Given.{Group}
use Rattle.house.specs.declared.Making.{Making}
use Rattle.house.specs.Memory.{state_in, Before}
use Rattle.loading.specs.declared.held.Reading.{Reading}

-- n bytes fed: what the next call requires, or what the walk does
pub record Feeds (n : ℕ) (m : Making) (w : List ℕ) (g : Group) : Type 0 where
  pub within : m.at ≤ n
  pub before : state_in m.stage ≤ 1 → Before m w g
  pub ready : state_in m.stage ≡ 3 → (sheet_shape w ≡ true) × (m.ranking ≤ 1)

-- the sheet's part of the input: as many bytes at hand as the buffer has room for, and the same
pub record Reads (size : ℕ) (r : Reading) (w : List ℕ) (g : Group) : Type 0 where
  pub have : r.have ≤ size
  pub before : state_in r.making.stage ≤ 1 → Before r.making w g
  pub ready : state_in r.making.stage ≡ 3 → (sheet_shape w ≡ true) × (r.making.ranking ≤ 1)
