-- What a push answers, and the memory with it. Assumes nothing.
use Rattle.std.specs.Prelude.{◌≡◌, cond, List, [], ◌∷◌, ℕ, eqb, Result, ⊤}
use Rattle.lent.specs.declared.Refusal.{Refusal}
use Rattle.lent.specs.Refusals.{answered, done_told}

abbrev pub pushing_told : Result ⊤ Refusal → List ℕ
pushing_told r = done_told r

-- `verdict` is the refusal's number, 0 for none. A refused call changes no word; an accepted one leaves `pushed`
pub record Push (verdict : ℕ) (before pushed : List ℕ) (r : Result ⊤ Refusal) (after : List ℕ) : Type 0 where
  pub answer : pushing_told r ≡ answered verdict (0 ∷ [])
  pub memory : after ≡ cond (eqb verdict 0) pushed before

-- The same by the number of the refusal that the push answers, 0 for none
pub record Pushes (verdict : ℕ) (before pushed : List ℕ) (r : ℕ) (after : List ℕ) : Type 0 where
  pub answer : r ≡ verdict
  pub memory : after ≡ cond (eqb verdict 0) pushed before
