-- Laws of the sums of two sheets, by each way through the code. Assumes nothing.
use mathlib.Core.Path.{◌≡◌, sym, ◌∙◌}
use mathlib.Core.Bool.{Bool, true, false, ◌||◌}
use Prim.Native.Nat.{ℕ, ◌+◌}
use lib.Dec.{ltb}

pub or_yes : (a b p : Bool) → p ≡ a → p ≡ true → true ≡ (a || b)
or_yes a b p e f = rw (sym e ∙ f)

pub or_no : (a b p r : Bool) → p ≡ a → p ≡ false → r ≡ b → r ≡ (a || b)
or_no a b p r e f g = rw (sym e ∙ f) g

-- a and b, as they were read
pub sum_is : (n a b x y : ℕ) → x ≡ a → y ≡ b → ltb n (x + y) ≡ ltb n (a + b)
sum_is n a b x y e f = rw (e, f)

-- the same, where they were widened besides
pub sum_wide : (n a b x₀ x y₀ y : ℕ) → x ≡ x₀ → x₀ ≡ a → y ≡ y₀ → y₀ ≡ b → ltb n (x + y) ≡ ltb n (a + b)
sum_wide n a b x₀ x y₀ y e₀ e f₀ f = rw (e₀, e, f₀, f)

pub ruleset sums = (or_yes, or_no, sum_is)
