-- A label and a number in a buffer. Assumes nothing.
use Rattle.std.specs.Prelude.{List, ℕ}
use Rattle.lines.specs.Text.{Laid, LaidNumber}

-- The label is laid first, then the number where the label ends
pub record Labelled (label : List ℕ) (n : ℕ) (before : List ℕ) (at r : ℕ) (after : List ℕ) : Type 0 where
  pub between : List ℕ
  pub middle : ℕ
  pub first : Laid label before at middle between
  pub second : LaidNumber n between middle r after
