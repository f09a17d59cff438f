-- Items of input: 4 bytes that say what is to be done, 4 that say how many words follow, and those words. Assumes nothing.
use Rattle.std.specs.Prelude.{◌≡◌, Bool, cond, ◌&&◌, List, ℕ, ◌+◌, ◌-◌, ◌*◌, ◌≤◌, length, take, drop, leb, ltb}
use Rattle.lines.specs.Text.{word_at, Read}

-- most words that follow
abbrev pub MOST : ℕ
MOST = 32768

-- the item that begins the bytes says that too many follow
unfoldable pub too_long : List ℕ → Bool
too_long bytes = leb 8 (length bytes) && ltb MOST (word_at bytes 4)

-- how many bytes the item at `at` has, by what it says
abbrev pub size_at : List ℕ → ℕ → ℕ
size_at bytes at = 8 + word_at bytes (at + 4) * 4

-- it is whole there, and not too long
unfoldable pub whole_at : List ℕ → ℕ → Bool
whole_at bytes at = leb 8 (length bytes - at) && (leb (word_at bytes (at + 4)) MOST && leb (size_at bytes at) (length bytes - at))

-- where it ends; `at` itself where it is cut short or too long
unfoldable pub end_of : List ℕ → ℕ → ℕ
end_of bytes at = cond (whole_at bytes at) (at + size_at bytes at) at

-- the bytes from one place to another
abbrev pub between : List ℕ → ℕ → ℕ → List ℕ
between bytes from to = take (to - from) (drop from bytes)

-- the item that begins at `from` of the first `have` bytes: where it ends, its first word, and the words that follow, laid into a list
pub record Taken (bytes : List ℕ) (from next have op : ℕ) (before : List ℕ) (count : ℕ) (after : List ℕ) : Type 0 where
  pub ends : next ≡ end_of (take have bytes) from
  pub first : op ≡ word_at (between bytes from next) 0
  pub rest : Read (drop 8 (between bytes from next)) before count after

-- what begins at `from` now is what began at `at` before, as far as the first `have` bytes told it: none of them is passed over or taken again
pub record Onward (before : List ℕ) (at have : ℕ) (after : List ℕ) (from have' : ℕ) : Type 0 where
  pub same : take (have - at) (drop from after) ≡ between before at have
  pub least : have - at ≤ have' - from
