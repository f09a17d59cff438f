-- The weight of a selector: 01, "Weight, winners, changes". Assumes nothing.
use Rattle.std.specs.Prelude.{◌≡◌, refl, List, [], ◌∷◌, ℕ, zero, suc, ◌+◌, pos, negsuc}
use Rattle.theory.specs.Lists.{compare, total}

-- How many a step asks for of each, counted from its sets
pub record Counts : Type 0 where
  pub pseudos : ℕ
  pub classes : ℕ
  pub parts : ℕ
  pub types : ℕ

-- Four numbers, compared in order
pub record Weight : Type 0 where
  pub first : ℕ
  pub second : ℕ
  pub third : ℕ
  pub fourth : ℕ

abbrev pub weight_numbers : Weight → List ℕ
weight_numbers w = w.first ∷ w.second ∷ w.third ∷ w.fourth ∷ []

-- "Ranking 0: pseudos, classes, parts, types, each summed over the steps, compared in that order.
-- Ranking 1 (added): Level 3's specificity, first classes plus pseudos, then types plus parts". Its last two numbers are 0 and never decide
abbrev pub weight_of : ℕ → List Counts → Weight
weight_of zero l = record {
  first = total (λ c. c.pseudos) l;
  second = total (λ c. c.classes) l;
  third = total (λ c. c.parts) l;
  fourth = total (λ c. c.types) l;
}
weight_of (suc ranking) l = record {
  first = total (λ c. c.classes) l + total (λ c. c.pseudos) l;
  second = total (λ c. c.types) l + total (λ c. c.parts) l;
  third = 0;
  fourth = 0;
}

-- of a direct style: "Direct styles have weight and order 0."
abbrev pub no_weight : Weight
no_weight = record { first = 0; second = 0; third = 0; fourth = 0 }

-- ---- for example: a step with one pseudo and a type, and one with two classes and a part

abbrev pseudo_type : List Counts
pseudo_type = record { pseudos = 1; classes = 0; parts = 0; types = 1 } ∷ []

abbrev classes_part : List Counts
classes_part = record { pseudos = 0; classes = 2; parts = 1; types = 0 } ∷ []

-- in ranking 0 the pseudo decides, in ranking 1 the two classes
pseudo_decides : compare (weight_numbers (weight_of 0 pseudo_type)) (weight_numbers (weight_of 0 classes_part)) ≡ pos 1
unfolding total compare
pseudo_decides = refl

classes_decide : compare (weight_numbers (weight_of 1 pseudo_type)) (weight_numbers (weight_of 1 classes_part)) ≡ negsuc 0
unfolding total compare
classes_decide = refl

-- all four numbers, each summed over the steps
four_numbers : weight_numbers (weight_of 0 (record { pseudos = 1; classes = 2; parts = 3; types = 4 } ∷ pseudo_type)) ≡ 2 ∷ 2 ∷ 3 ∷ 5 ∷ []
unfolding total
four_numbers = refl
