-- The refusals' numbers, and which of several counts. Assumes nothing.
use Rattle.std.specs.Prelude.{Bool, cond, List, [], ◌∷◌, ◌++◌, ℕ, zero, suc, get_or, eqb, Result, Ok, Err, ⊤}
use Rattle.lent.specs.declared.Refusal.{Refusal}
use Rattle.lent.specs.declared.Refusal.TheVariants.{NotAscending, OverSize, CombinatorCount, NotAState, NoRoom, CodeOutOfRange, NoSourceIndex, BufferTooShort, NoSuchRule, BadRecord, BrokenShape}

-- 01's table: "Each refusal returns its number alone; 10 adds a byte offset."
abbrev pub number_of : Refusal → ℕ
number_of NotAscending = 1
number_of OverSize = 2
number_of CombinatorCount = 3
number_of NotAState = 4
number_of NoRoom = 5
number_of CodeOutOfRange = 6
number_of NoSourceIndex = 7
number_of BufferTooShort = 8
number_of NoSuchRule = 9
number_of (BadRecord at) = 10
number_of BrokenShape = 11

-- "10 adds a byte offset"
abbrev pub added : Refusal → List ℕ
added NotAscending = []
added OverSize = []
added CombinatorCount = []
added NotAState = []
added NoRoom = []
added CodeOutOfRange = []
added NoSourceIndex = []
added BufferTooShort = []
added NoSuchRule = []
added (BadRecord at) = at ∷ []
added BrokenShape = []

-- What a refusal tells
abbrev pub told : Refusal → List ℕ
told r = number_of r ∷ added r

-- The refusals by their numbers: 10 at offset 0, and 11 for a number that none has
abbrev pub refusals : List Refusal
refusals =
    BrokenShape
    ∷ NotAscending
    ∷ OverSize
    ∷ CombinatorCount
    ∷ NotAState
    ∷ NoRoom
    ∷ CodeOutOfRange
    ∷ NoSourceIndex
    ∷ BufferTooShort
    ∷ NoSuchRule
    ∷ BadRecord 0
    ∷ BrokenShape
    ∷ []

unfoldable pub refusal_of : ℕ → Refusal
refusal_of n = get_or refusals n BrokenShape

-- 01's "Order": a refusal's number, and the test that gives it
pub record Check : Type 0 where
  pub number : ℕ
  pub fails : Bool

abbrev pub check : ℕ → Bool → Check
check n b = record { number = n; fails = b }

-- The number of the first test that holds; 0 where none does, and the call is accepted
unfoldable pub first_of : List Check → ℕ
first_of [] = 0
first_of (c ∷ l) = cond c.fails c.number (first_of l)

-- "each .. in turn": the checks of number 0, then those of number 1, and so on below n
unfoldable pub checks_below : ℕ → (ℕ → List Check) → List Check
checks_below zero checks = []
checks_below (suc n) checks = checks_below n checks ++ checks n

-- Yes is told as 1, no as 0
abbrev pub one_if : Bool → ℕ
one_if b = cond b 1 0

-- A call's answer as numbers: what an accepted call tells, a list that begins with 0, or the refusal's number alone
abbrev pub answered : ℕ → List ℕ → List ℕ
answered verdict accepted = cond (eqb verdict 0) accepted (verdict ∷ [])

-- An accepted call tells 0 and then what it gives, a refused one its refusal
abbrev pub answer_told : {A : Type 0} → (A → List ℕ) → Result A Refusal → List ℕ
answer_told tell (Ok a) = 0 ∷ tell a
answer_told tell (Err r) = told r

-- yes or no: 1 or 0
abbrev pub yes_told : Result Bool Refusal → List ℕ
yes_told r = answer_told (λ b. one_if b ∷ []) r

-- a number
abbrev pub number_told : Result ℕ Refusal → List ℕ
number_told r = answer_told (λ n. n ∷ []) r

-- nothing but that it is done
abbrev pub done_told : Result ⊤ Refusal → List ℕ
done_told r = answer_told (λ u. []) r

-- What a check finds: the refusal's number, 0 for none
abbrev pub verdict_of : {A : Type 0} → Result A Refusal → ℕ
verdict_of (Ok a) = 0
verdict_of (Err r) = number_of r
