-- Demand 1: "Each public call takes all input, ends, and checks for itself: bad input gets 01's numbered refusal exactly when 01 says, and a refused call changes
-- no lent memory." Which number a list of checks gives, and what a call does with it. Assumes nothing.
use Rattle.std.specs.Prelude.{◌≡◌, ◌↔◌, ◌≢◌, true, false, List, [], ◌∷◌, ℕ, ◌<◌}
use Rattle.lent.specs.Refusals.{Check}

-- A check is a refusal's number and the test that gives it; a call's checks stand in 01's "Order". The first whose test holds gives its number:
pub data First : List Check → ℕ → Type 0 where
  here : {c : Check} {l : List Check} {n : ℕ} → c.fails ≡ true → c.number ≡ n → First (c ∷ l) n
  later : {c : Check} {l : List Check} {n : ℕ} → c.fails ≡ false → First l n → First (c ∷ l) n

-- or no test holds
pub data None : List Check → Type 0 where
  none : None []
  more : {c : Check} {l : List Check} → c.fails ≡ false → None l → None (c ∷ l)

-- "each .. in turn": checks of number 0, then those of number 1, and so on below n; the first turn whose checks give a number gives it
pub record InTurn (n : ℕ) (checks : ℕ → List Check) (m : ℕ) : Type 0 where
  pub turn : ℕ
  pub below : turn < n
  pub before : (k : ℕ) → k < turn → None (checks k)
  pub gives : First (checks turn) m

-- A call tells numbers: 0 and its answer where it accepts. "Each refusal returns its number alone": exactly the number that the checks give
pub record Refusing (checks : List Check) (told : List ℕ) : Type 0 where
  pub refused : (n : ℕ) → ((told ≡ n ∷ []) × (n ≢ 0)) ↔ First checks n
  pub accepted : ((answer : List ℕ) × (told ≡ 0 ∷ answer)) ↔ None checks

-- "None writes." A refused call leaves the memory that it was lent as it was
abbrev pub Unwritten : {A : Type 0} → List Check → A → A → Type 0
Unwritten checks before after = (n : ℕ) → First checks n → after ≡ before

-- of a call that is lent memory to write: both
pub record Guarding {A : Type 0} (checks : List Check) (told : List ℕ) (before after : A) : Type 0 where
  pub answer : Refusing checks told
  pub unwritten : Unwritten checks before after
