-- The weight of a selector in lent rows: 01, "Weight, winners, changes". Assumes nothing.
use Rattle.std.specs.Prelude.{◌≡◌, List, [], ◌∷◌, ℕ, ◌≤◌, length, Result}
use Rattle.std.proofs.Math.Option.{Option, none, some}
use Rattle.theory.specs.Lists.{spread, total}
use Rattle.theory.specs.Weight.{Counts, Weight, weight_numbers, weight_of}
use Rattle.lent.specs.declared.Refusal.{Refusal}
use Rattle.lent.specs.Refusals.{answered, answer_told}
use Rattle.selector.specs.declared.Specificity.{Specificity}
use Rattle.selector.specs.Tags.{Tags}
use Rattle.selector.specs.Rows.{step_at}
use Rattle.selector.specs.Checks.{selector_verdict}

abbrev pub is_set : Option ℕ → ℕ
is_set none = 0
is_set (some n) = 1

-- "counted from the step's sets"
unfoldable pub counts_of : Tags → Counts
counts_of t = record { pseudos = length t.pseudos; classes = length t.classes; parts = is_set t.part; types = is_set t.type }

-- of n steps
unfoldable pub counts_in : List ℕ → ℕ → List Counts
counts_in steps n = spread (λ k. counts_of (step_at steps k)) 0 n

-- s is the counts of one step, each at most 8
pub record Counted (t : Tags) (s : Specificity) : Type 0 where
  pub pseudos : s.0 ≡ (counts_of t).pseudos
  pub classes : s.1 ≡ (counts_of t).classes
  pub parts : s.2 ≡ (counts_of t).parts
  pub types : s.3 ≡ (counts_of t).types
  pub pseudos_few : s.0 ≤ 8
  pub classes_few : s.1 ≤ 8
  pub parts_few : s.2 ≤ 8
  pub types_few : s.3 ≤ 8

-- s is these counts, each summed over the steps and at most 64: far below the Rust's saturation
pub record Summed (l : List Counts) (s : Specificity) : Type 0 where
  pub pseudos : s.0 ≡ total (λ c. c.pseudos) l
  pub classes : s.1 ≡ total (λ c. c.classes) l
  pub parts : s.2 ≡ total (λ c. c.parts) l
  pub types : s.3 ≡ total (λ c. c.types) l
  pub pseudos_few : s.0 ≤ 64
  pub classes_few : s.1 ≤ 64
  pub parts_few : s.2 ≤ 64
  pub types_few : s.3 ≤ 64

-- 01: "Prove that the Rust's saturation is never met." The Rust saturates at 4,294,967,295; each number of both weights is far below it
pub record Unsaturated (l : List Counts) : Type 0 where
  pub pseudos : (weight_of 0 l).first ≤ 64
  pub classes : (weight_of 0 l).second ≤ 64
  pub parts : (weight_of 0 l).third ≤ 64
  pub types : (weight_of 0 l).fourth ≤ 64
  pub ids : (weight_of 1 l).first ≤ 128
  pub tags : (weight_of 1 l).second ≤ 128

-- The answer as numbers: 0 and the four numbers of the weight; a refusal's own number
abbrev pub weighing_told : Result Specificity Refusal → List ℕ
weighing_told r = answer_told (λ w. w.0 ∷ w.1 ∷ w.2 ∷ w.3 ∷ []) r

abbrev pub weight_told : Weight → List ℕ
weight_told w = 0 ∷ weight_numbers w

unfoldable pub weighing_of : ℕ → List ℕ → ℕ → List ℕ → ℕ → List ℕ
weighing_of ranking steps n combinators c =
    answered (selector_verdict steps n combinators c) (weight_told (weight_of ranking (counts_in steps n)))
