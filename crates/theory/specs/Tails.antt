-- Whether a selector with steps fits a tail of a path, as a test: `FitsTail` of `Paths`, by `fits_tail_T` (proofs/Decide). Assumes nothing.
use Rattle.std.specs.Prelude.{Bool, true, false, ◌&&◌, ◌||◌, List, [], ◌∷◌}
use Rattle.theory.specs.Paths.{descendant, Part, Selector}
use Rattle.theory.specs.States.{descends}

-- A step as a descendant: it may stand anywhere in the path
abbrev pub free : {Step : Type 0} → Part Step → Part Step
free p = record { comb = descendant; step = p.step }

module _ {Step Subject : Type 0} (ok : Step → Subject → Bool) where
  -- `Goes`
  abbrev pub goes : Selector Step → List Subject → Bool
  goes [] [] = true
  goes [] (x ∷ path) = false
  goes (p ∷ sel) [] = false
  goes (p ∷ sel) (x ∷ path) = (ok p.step x && goes sel path) || (descends p.comb && goes (p ∷ sel) path)

  -- The selector has steps, and fits a tail of the path
  abbrev pub fits_tail : Selector Step → List Subject → Bool
  fits_tail [] path = false
  fits_tail (p ∷ sel) path = goes (free p ∷ sel) path
