-- Level 3's words on 01's selectors, paths and weights. Assumes nothing.
use Rattle.std.specs.Prelude.{◌≡◌, List, [], ◌∷◌, ◌≤◌}
use Rattle.theory.specs.Paths.{Selector}
use Rattle.theory.specs.Level3.{Represents, specificity}
use Rattle.theory.specs.Reading.{chain_of, element_of, simples}
use Rattle.theory.specs.Weight.{Counts, weight_of}
use Rattle.selector.specs.declared.Specificity.{Specificity}
use Rattle.selector.specs.Tags.{Tags, step_matches}
use Rattle.weighed.specs.Weighing.{weight_from}

-- The selector represents the path's last element; the subjects before are its ancestors. §4: an empty selector is none, and an empty path has no last
abbrev pub RepresentsLast : Selector Tags → List Tags → Type 0
RepresentsLast [] path = ⊥
RepresentsLast (p ∷ sel) [] = ⊥
RepresentsLast (p ∷ sel) (x ∷ path) = Represents step_matches (chain_of p sel) (element_of x path)

-- s is the standard weight of steps with these counts
pub record Standard (counts : List Counts) (s : Specificity) : Type 0 where
  -- 01: "Ranking 1 (added): Level 3's specificity, first classes plus pseudos, then types plus parts"
  pub weight : weight_from s ≡ weight_of 1 counts
  -- §9: a, b and c of the steps' simple selectors; a counts ids, of which there are none
  pub level3 : specificity (simples counts) ≡ 0 ∷ s.0 ∷ s.1 ∷ []
  -- far below the Rust's saturation
  pub first_few : s.0 ≤ 128
  pub second_few : s.1 ≤ 128
