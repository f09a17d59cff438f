-- The refusals of a pushed cascade, by each way through the code. Assumes nothing.
use mathlib.Core.Path.{◌≡◌, ap}
use mathlib.Core.Bool.{Bool, true, false, not}
use mathlib.Core.List.{List, ◌∷◌}
use Prim.Native.Nat.{ℕ}
use Rattle.lent.specs.Refusals.{Check, check, first_of}
use Rattle.lent.proofs.Refusals.{first_hit, first_pass, first_end}
use Rattle.sheet.specs.Shape.{sheet_shape}

-- of the flag b that tells the shape of a sheet
module _ (w : List ℕ) (b : Bool) (e : b ≡ sheet_shape w) (l : List Check) where
  pub shape_hit : not b ≡ true → 11 ≡ first_of (check 11 (not (sheet_shape w)) ∷ l)
  shape_hit f = first_hit 11 (not b) (not (sheet_shape w)) l (ap not e) f

  pub shape_pass : not b ≡ false → (r : ℕ) → r ≡ first_of l → r ≡ first_of (check 11 (not (sheet_shape w)) ∷ l)
  shape_pass f r g = first_pass 11 r (not b) (not (sheet_shape w)) l (ap not e) f g

pub ruleset refusals = (first_hit, first_pass, first_end, shape_hit, shape_pass)
