-- When the input ends, and its last line. Assumes nothing.
use Rattle.std.specs.Prelude.{◌≡◌, Bool, cond, ◌||◌, List, [], ◌∷◌, ℕ, length, leb}
use Rattle.std.proofs.lemmas.List.Edits.{sets}
use Rattle.lines.specs.Text.{fits_at}

-- a text at the front of a buffer, where it has room
unfoldable pub at_front : List ℕ → List ℕ → List ℕ
at_front words before = cond (fits_at words before 0) (sets before 0 words) before

-- "too long", a line
abbrev pub TOO-LONG : List ℕ
TOO-LONG = 116 ∷ 111 ∷ 111 ∷ 32 ∷ 108 ∷ 111 ∷ 110 ∷ 103 ∷ 10 ∷ []

-- "cut short", a line
abbrev pub CUT-SHORT : List ℕ
CUT-SHORT = 99 ∷ 117 ∷ 116 ∷ 32 ∷ 115 ∷ 104 ∷ 111 ∷ 114 ∷ 116 ∷ 10 ∷ []

-- what the last line leaves in the buffer: nothing is said before the end, and nothing where nothing is left
unfoldable pub last_line : Bool → Bool → List ℕ → List ℕ → List ℕ
last_line too_long atEnd rest before = cond too_long (at_front TOO-LONG before) (cond atEnd (cond (leb (length rest) 0) before (at_front CUT-SHORT before)) before)

pub record Ends (too_long atEnd : Bool) (rest before : List ℕ) (r : Bool) (after : List ℕ) : Type 0 where
  pub answer : r ≡ too_long || atEnd
  pub buffer : after ≡ last_line too_long atEnd rest before
