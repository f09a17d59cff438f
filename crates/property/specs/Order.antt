-- The order of two numbers, as that of two lists that hold one each. Assumes nothing.
use Rattle.std.specs.Prelude.{[], ◌∷◌, ℕ, ℤ}
use Rattle.theory.specs.Lists.{compare}

unfoldable pub order_of : ℕ → ℕ → ℤ
order_of a b = compare (a ∷ []) (b ∷ [])
