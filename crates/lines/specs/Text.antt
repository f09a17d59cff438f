-- Text in a buffer, and words in bytes. Assumes nothing.
use Rattle.std.specs.Prelude.{◌≡◌, Bool, cond, List, [], ◌∷◌, ◌++◌, ℕ, zero, suc, ◌+◌, ◌*◌, ◌/◌, min, length, get_or, drop, leb}
use Rattle.std.proofs.lemmas.List.Edits.{sets}
use Rattle.io.specs.Digits.{last_digits, IsDigitCount}

-- it ends within the buffer
abbrev pub fits_at : List ℕ → List ℕ → ℕ → Bool
fits_at words before at = leb (at + length words) (length before)

-- The words stand from `at` on and the next place is after them; where they have no room nothing is written, and the place stays
pub record Laid (words before : List ℕ) (at r : ℕ) (after : List ℕ) : Type 0 where
  pub next : r ≡ cond (fits_at words before at) (at + length words) at
  pub whole : after ≡ cond (fits_at words before at) (sets before at words) before

-- The same of a number's fewest decimal digits; how many they are is told by the number
pub record LaidNumber (n : ℕ) (before : List ℕ) (at r : ℕ) (after : List ℕ) : Type 0 where
  pub count : ℕ
  pub fewest : IsDigitCount 10 1 n count
  pub laid : Laid (last_digits 10 count n) before at r after

-- the least byte first
unfoldable pub word_at : List ℕ → ℕ → ℕ
word_at bytes at = get_or bytes at 0 + get_or bytes (at + 1) 0 * 256 + (get_or bytes (at + 2) 0 + get_or bytes (at + 3) 0 * 256) * 65536

-- the first n words
unfoldable pub first_words : List ℕ → ℕ → List ℕ
first_words bytes zero = []
first_words bytes (suc n) = first_words bytes n ++ word_at bytes (n * 4) ∷ []

-- As many words as are whole in the bytes and have a place; what stands past them stays
pub record Read (bytes before : List ℕ) (r : ℕ) (after : List ℕ) : Type 0 where
  pub count : r ≡ min (length bytes / 4) (length before)
  pub whole : after ≡ first_words bytes r ++ drop r before
