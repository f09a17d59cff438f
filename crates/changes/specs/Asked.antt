-- The properties to be asked and those of them that differ, in the order in which they are written. For contracts within and cores alone. Assumes nothing.
use Rattle.std.specs.Prelude.{◌≡◌, Bool, cond, not, List, [], ◌∷◌, ◌++◌, ℕ, ◌≤◌, length, take}
use Rattle.theory.specs.Lists.{sort}
use Rattle.theory.specs.Cascade.{same_key}
use Rattle.winners.specs.Winners.{winning_key_of}
use Rattle.changes.specs.Within.{properties_without}

-- those that pass a test, in order
unfoldable pub keep : {A : Type 0} → (A → Bool) → List A → List A
keep f [] = []
keep f (a ∷ l) = cond (f a) (a ∷ keep f l) (keep f l)

-- the properties of rules that are listed on one side only, ascending
abbrev pub asked : List ℕ → List ℕ → List ℕ → List ℕ
asked w old new = sort (properties_without w old new ++ properties_without w new old)

-- that the winning key differs, as a test
abbrev pub differing : List ℕ → ℕ → List ℕ → List ℕ → ℕ → Bool
differing w ranking old new p = not (same_key (winning_key_of w ranking old p) (winning_key_of w ranking new p))

-- they stand in the first r words
pub record Listed (w old new : List ℕ) (r : ℕ) (words : List ℕ) : Type 0 where
  pub few : r ≤ 4096
  pub count : r ≡ length (asked w old new)
  pub are : take r words ≡ asked w old new
