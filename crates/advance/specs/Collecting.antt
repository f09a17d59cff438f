-- Numbers collected along two lists, in the order in which they are put. For contracts within and cores alone. Assumes nothing.
use Rattle.std.specs.Prelude.{◌≡◌, true, ◌⊎◌, ◌↔◌, ℕ, ◌+◌, ◌/◌, ◌≤◌, ◌<◌, length, take, drop}
use mathlib.Core.List.{List, ◌++◌, flat_map}
use Rattle.theory.specs.Lists.{◌∈◌, Ascending, ascends, sort}
use Rattle.selector.specs.Tags.{Tags}
use Rattle.advance.specs.Advancing.{leaves, lists}

-- ---- numbers put one after the other: those so far are the first words of a buffer

-- ascending, none above a, and room for so many more
pub record Free (spare a : ℕ) (out : List ℕ) (used : ℕ) : Type 0 where
  pub room : used + spare ≤ length out
  pub up : Ascending (take used out)
  pub low : (k : ℕ) → k ∈ take used out → k ≤ a

-- the numbers m have joined the first `used`
pub record Put (out : List ℕ) (used : ℕ) (m out' : List ℕ) (used' : ℕ) : Type 0 where
  pub joined : take used' out' ≡ sort (take used out ++ m)
  pub past : drop used' out' ≡ drop used' out
  pub more : used ≤ used'
  pub within : used' ≤ length out'

-- what of the cursor c stays: then there is room for c + 1
pub record Kept (next : List ℕ) (n c : ℕ) (l next' : List ℕ) (n' : ℕ) : Type 0 where
  pub put : Put next n l next' n'
  pub free : Free 1 (c + 1) next' n'

-- n cursors and k rules, and those that joined them
pub record Puts (next : List ℕ) (n : ℕ) (l next' : List ℕ) (n' : ℕ) (listed : List ℕ) (k : ℕ) (m listed' : List ℕ) (k' : ℕ) : Type 0 where
  pub cursors : Put next n l next' n'
  pub rules : Put listed k m listed' k'

-- ---- a walk over two ascending lists: i of the one and j of the other are done, and the numbers that f brings from those are put

-- g is what the numbers so far are not above, for each that is left
pub record Walk (f : ℕ → List ℕ) (g : ℕ → ℕ) (a b out : List ℕ) (i j used : ℕ) : Type 0 where
  pub within : used ≤ length out
  pub up : Ascending (take used out)
  pub low : (k c : ℕ) → k ∈ take used out → c ∈ (drop i a ++ drop j b) → k ≤ g c
  pub whole : sort (flat_map f (a ++ b)) ≡ sort (take used out ++ flat_map f (drop i a ++ drop j b))
  pub room : length (sort (flat_map f (a ++ b))) + 2 ≤ length out

pub record Walks (w : List ℕ) (x : Tags) (a b next listed : List ℕ) (i j cursors matched : ℕ) : Type 0 where
  pub up_a : ascends a ≡ true
  pub up_b : ascends b ≡ true
  pub in_a_lem : i ≤ length a
  pub in_b_lem : j ≤ length b
  pub left : Walk (leaves w x) (λ c. c) a b next i j cursors
  pub listed_so : Walk (lists w x) (λ c. c / 8) a b listed i j matched

-- c is the lowest that is left, in one list or in both: with it i' and j' are done, and all others are left
pub record Least (a b : List ℕ) (i j c i' j' : ℕ) : Type 0 where
  pub each : (k : ℕ) → (k ∈ (drop i a ++ drop j b)) ↔ ((k ≡ c) ⊎ (k ∈ (drop i' a ++ drop j' b)))
  pub above : (k : ℕ) → k ∈ (drop i' a ++ drop j' b) → c < k
  pub in_a_lem : i ≤ length a → i' ≤ length a
  pub in_b_lem : j ≤ length b → j' ≤ length b
  pub further : i + j < i' + j'

-- a turn: the walk goes on, and past its numbers nothing is written
pub record Turned (w : List ℕ) (x : Tags) (a b next listed : List ℕ) (i j cursors matched : ℕ) (next' listed' : List ℕ) (i' j' cursors' matched' : ℕ) : Type 0 where
  pub walks : Walks w x a b next' listed' i' j' cursors' matched'
  pub further : i + j < i' + j'
  pub more_cursors : cursors ≤ cursors'
  pub more_matched : matched ≤ matched'
  pub past_cursors : drop cursors' next' ≡ drop cursors' next
  pub past_matched : drop matched' listed' ≡ drop matched' listed
