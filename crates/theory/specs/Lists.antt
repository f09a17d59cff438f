-- Lists of numbers: strictly ascending, sorted, spread out, summed, selected, compared. Assumes nothing.
use Rattle.std.specs.Prelude.{Bool, true, false, cond, ◌&&◌, ◌||◌, ℕ, zero, suc, ◌+◌, ◌<◌, ltb, leb, eqb, ℤ, pos, negsuc}
use mathlib.Core.List.{List, [], ◌∷◌, ◌++◌, Memᴰ}

infix 4 ◌∈◌
abbrev pub ◌∈◌ : {A : Type 0} → A → List A → Type 0
◌∈◌ a l = Memᴰ a l

-- 01: "strictly ascending". Each number is below all that follow it
abbrev pub Ascending : List ℕ → Type 0
Ascending [] = Unit {0}
Ascending (a ∷ l) = ((b : ℕ) → b ∈ l → a < b) × Ascending l

-- The same as a test: each number is at least `low`, and above the one before it
unfoldable pub ascends_from : ℕ → List ℕ → Bool
ascends_from low [] = true
ascends_from low (a ∷ l) = leb low a && ascends_from (suc a) l

abbrev pub ascends : List ℕ → Bool
ascends l = ascends_from 0 l

-- x is one of the list
unfoldable pub member : ℕ → List ℕ → Bool
member x [] = false
member x (a ∷ l) = eqb a x || member x l

-- 01: "sets are contained". Each of the first list is one of the second
unfoldable pub contained : List ℕ → List ℕ → Bool
contained [] m = true
contained (a ∷ l) m = member a m && contained l m

-- x put before the first number that is not below it, unless that is x
unfoldable pub inserted : ℕ → List ℕ → List ℕ
inserted x [] = x ∷ []
inserted x (a ∷ l) = cond (ltb a x) (a ∷ inserted x l) (cond (eqb a x) (a ∷ l) (x ∷ a ∷ l))

-- 01: "sorted and made unique"
unfoldable pub sort : List ℕ → List ℕ
sort [] = []
sort (a ∷ l) = inserted a (sort l)

-- n alone, or nothing
abbrev pub only : Bool → ℕ → List ℕ
only true n = n ∷ []
only false n = []

-- No number is above the limit
unfoldable pub at_most : ℕ → List ℕ → Bool
at_most limit [] = true
at_most limit (a ∷ l) = leb a limit && at_most limit l

-- f at each of the n numbers from k on
abbrev pub spread : {A : Type 0} → (ℕ → A) → ℕ → ℕ → List A
spread f k zero = []
spread f k (suc n) = f k ∷ spread f (suc k) n

-- The sum of f over the numbers below n
unfoldable pub sum_below : (ℕ → ℕ) → ℕ → ℕ
sum_below f zero = 0
sum_below f (suc n) = sum_below f n + f n

-- The sum of f over a list
unfoldable pub total : {A : Type 0} → (A → ℕ) → List A → ℕ
total f [] = 0
total f (a ∷ l) = f a + total f l

-- The numbers below n that pass a test, ascending
unfoldable pub select : (ℕ → Bool) → ℕ → List ℕ
select f zero = []
select f (suc n) = select f n ++ only (f n) n

-- -1 where the first list stands before the second in the order of a dictionary, 1 where after it, 0 where they are the same
unfoldable pub compare : List ℕ → List ℕ → ℤ
compare [] [] = pos 0
compare [] (y ∷ b) = negsuc 0
compare (x ∷ a) [] = pos 1
compare (x ∷ a) (y ∷ b) = cond (ltb x y) (negsuc 0) (cond (ltb y x) (pos 1) (compare a b))
