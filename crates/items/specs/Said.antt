-- Lines of numbers in a buffer that is written out as it fills. Assumes nothing.
use Rattle.std.specs.Prelude.{◌≡◌, cond, List, [], ◌∷◌, ◌++◌, ℕ, leb, take, length, Result, Ok, Err, Option, Some, None}
use Rattle.lent.specs.declared.Refusal.{Refusal}
use Rattle.lent.specs.Refusals.{number_of}
use Rattle.lines.specs.Text.{Laid}
use Rattle.screen.specs.Labelled.{Labelled}

-- how many bytes may be kept
abbrev pub KEPT : ℕ
KEPT = 16384

-- where the next text goes: at the front, once what is used has been written out
abbrev pub kept : ℕ → ℕ
kept used = cond (leb used KEPT) used 0

-- the end of a line
pub record SaidEnd (before : List ℕ) (at r : ℕ) (after : List ℕ) : Type 0 where
  pub used : ℕ
  pub laid : Laid (10 ∷ []) before at used after
  pub next : r ≡ kept used

-- a number after a space
pub record SaidNumber (n : ℕ) (before : List ℕ) (at r : ℕ) (after : List ℕ) : Type 0 where
  pub used : ℕ
  pub laid : Labelled (32 ∷ []) n before at used after
  pub next : r ≡ kept used

-- numbers, each where the one before it leaves off
pub data SaidNumbers : List ℕ → List ℕ → ℕ → ℕ → List ℕ → Type 0 where
  none : {buffer : List ℕ} {at : ℕ} → SaidNumbers [] buffer at at buffer
  more : {n : ℕ} {l before : List ℕ} {at middle : ℕ} {between : List ℕ} {r : ℕ} {after : List ℕ}
      → SaidNumber n before at middle between → SaidNumbers l between middle r after → SaidNumbers (n ∷ l) before at r after

-- a tag, numbers, and the line's end
pub record SaidLine (tag list before : List ℕ) (at r : ℕ) (after : List ℕ) : Type 0 where
  pub start : ℕ
  pub tagged : List ℕ
  pub used : ℕ
  pub numbered : List ℕ
  pub first : Laid tag before at start tagged
  pub numbers : SaidNumbers list tagged start used numbered
  pub last : SaidEnd numbered used r after

-- ---- an answer's numbers: 0 and what it gives, or the refusal's number

abbrev pub answer_said : {A : Type 0} → (A → List ℕ) → Result A Refusal → List ℕ
answer_said tell (Ok a) = 0 ∷ tell a
answer_said tell (Err r) = number_of r ∷ []

abbrev pub option_said : Option ℕ → List ℕ
option_said (Some n) = n ∷ []
option_said None = []

-- the line's numbers by value: how many there are, and four words, 0 past them
abbrev pub IsSaid : List ℕ → ℕ → List ℕ → Type 0
IsSaid numbers count list = (count ≡ length numbers) × (list ≡ take 4 (numbers ++ 0 ∷ 0 ∷ 0 ∷ 0 ∷ []))
