-- Where a number stands in a list, and what a buffer holds after a call. Assumes nothing.
use Rattle.std.specs.Prelude.{◌≡◌, cond, List, [], ◌∷◌, ◌++◌, ℕ, suc, length, drop, ltb}

-- How many elements stand before the first that is not below x
unfoldable pub rank : ℕ → List ℕ → ℕ
rank x [] = 0
rank x (a ∷ l) = cond (ltb a x) (suc (rank x l)) 0

-- The list l in the first r words; 01: "An accepted call leaves what stands past its answer in a lent buffer."
pub record Holds (l before : List ℕ) (r : ℕ) (after : List ℕ) : Type 0 where
  pub count : r ≡ length l
  pub whole : after ≡ l ++ drop r before
