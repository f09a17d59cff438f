-- Lists end to end over a pool. Assumes nothing.
use Rattle.std.specs.Prelude.{List, ℕ, zero, suc, ◌+◌, ◌-◌, ◌*◌, get_or, take, drop}

-- Where a column's word of a row stands: the column starts at `base`, and `stride` words lie from one row to the next
abbrev pub address_of : ℕ → ℕ → ℕ → ℕ
address_of base stride row = base + stride * row

unfoldable pub ends_in : List ℕ → ℕ → ℕ → ℕ → ℕ
ends_in words base stride row = get_or words (address_of base stride row) 0

-- Lists stand end to end: list k runs from end k-1 (0 for the first) to end k
unfoldable pub start_of : (ℕ → ℕ) → ℕ → ℕ
start_of ends zero = 0
start_of ends (suc k) = ends k

unfoldable pub list_at : (ℕ → ℕ) → List ℕ → ℕ → List ℕ
list_at ends pool k = take (ends k - start_of ends k) (drop (start_of ends k) pool)
