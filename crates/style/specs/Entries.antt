-- A style's entries: 01, "Weight, winners, changes". Assumes nothing.
use Rattle.std.specs.Prelude.{◌≡◌, refl, cond, List, [], ◌∷◌, ℕ, get_or, eqb}
use Rattle.std.proofs.Math.Option.{Option, none, some}
use Rattle.theory.specs.Lists.{spread}

-- "Entry kinds: 0 value, 1 resource, 2 expression, 3 expression that reads resources." The number is the value's, the resource's or the expression's
pub record Entry : Type 0 where
  pub property : ℕ
  pub kind : ℕ
  pub number : ℕ

-- The first n entries of three lists
unfoldable pub entries_of : List ℕ → List ℕ → List ℕ → ℕ → List Entry
entries_of properties kinds numbers n = spread (λ k. record { property = get_or properties k 0; kind = get_or kinds k 0; number = get_or numbers k 0 }) 0 n

-- The entry of a property; property ids ascend, so there is at most one
unfoldable pub look_up : ℕ → List Entry → Option Entry
look_up p [] = none
look_up p (e ∷ l) = cond (eqb e.property p) (some e) (look_up p l)

-- ---- for example

sample : look_up 7 (entries_of (3 ∷ 7 ∷ 9 ∷ []) (0 ∷ 1 ∷ 2 ∷ []) (10 ∷ 20 ∷ 30 ∷ []) 3) ≡ some (record { property = 7; kind = 1; number = 20 })
unfolding look_up entries_of
sample = refl

-- what stands past the count is no entry
past_the_count : look_up 9 (entries_of (3 ∷ 7 ∷ 9 ∷ []) (0 ∷ 1 ∷ 2 ∷ []) (10 ∷ 20 ∷ 30 ∷ []) 2) ≡ none
unfolding look_up entries_of
past_the_count = refl
