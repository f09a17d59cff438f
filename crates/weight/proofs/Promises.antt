-- What the weight's answers promise. Assumes nothing.
use mathlib.Core.Path.{◌≡◌, sym, ap}
use mathlib.Core.List.{List, [], ◌∷◌}
use Prim.Native.Nat.{ℕ}
use lib.ListN.{get_or}
use Rattle.theory.specs.Level3.{specificity}
use Rattle.theory.specs.Reading.{simples}
use Rattle.theory.proofs.Level3.{weight_level3}
use Rattle.selector.specs.Checks.{selector_verdict}
use Rattle.selector.specs.Weighing.{counts_in, weighing_of}

-- The answer in ranking 1 is b and c of Level 3's specificity, of the steps as simple selectors
pub weighs_level3 : (steps : List ℕ) (n : ℕ) (combinators : List ℕ) (c : ℕ) → selector_verdict steps n combinators c ≡ 0
    → weighing_of 1 steps n combinators c ≡ 0 ∷ get_or (specificity (simples (counts_in steps n))) 1 0 ∷ get_or (specificity (simples (counts_in steps n))) 2 0 ∷ 0 ∷ 0 ∷ []
unfolding weighing_of
weighs_level3 steps n combinators c z =
    let e = weight_level3 (counts_in steps n) in
    rw z (sym (ap (λ (l : List ℕ). 0 ∷ get_or l 1 0 ∷ get_or l 2 0 ∷ 0 ∷ 0 ∷ []) e))
