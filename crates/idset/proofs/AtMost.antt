-- The test of each number of a list against a limit. Assumes nothing.
use mathlib.Core.Path.{◌≡◌, refl, ap}
use mathlib.Core.Bool.{◌&&◌}
use mathlib.Core.List.{List, [], ◌∷◌}
use Prim.Native.Nat.{ℕ}
use lib.Dec.{leb}
use Rattle.std.specs.List.{list_all}
use Rattle.theory.specs.Lists.{at_most}

pub all_at_most : (limit : ℕ) (l : List ℕ) → list_all (λ n. leb n limit) l ≡ at_most limit l
unfolding at_most
all_at_most limit [] = refl
all_at_most limit (a ∷ l) = ap (λ b. leb a limit && b) (all_at_most limit l)
