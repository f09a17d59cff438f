-- The bits of a number, as a set of small numbers. Assumes nothing.
use Rattle.std.specs.Prelude.{◌≡◌, refl, Bool, List, [], ◌∷◌, ℕ, ◌/◌, ◌%◌, ◌^◌, eqb}
use Rattle.theory.specs.Lists.{select}

-- Bit k of n is set
unfoldable pub bit : ℕ → ℕ → Bool
bit n k = eqb (n / 2 ^ k % 2) 1

-- The bits of a u32 that are set, ascending
unfoldable pub bits_in : ℕ → List ℕ
bits_in n = select (bit n) 32

-- ---- for example

sample : bits_in 37 ≡ 0 ∷ 2 ∷ 5 ∷ []
unfolding bits_in select bit
sample = refl
