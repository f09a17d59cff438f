-- Sheets made by accepted pushes: 01, "A sheet not made from the empty one by accepted pushes (pushed cascades likewise)". Assumes nothing.
use Rattle.std.specs.Prelude.{◌≡◌, List, ℕ, ◌<◌, get_or}
use Rattle.theory.specs.Sizes
use Rattle.sheet.specs.Laying.{emptied}
use Rattle.given.specs.Given.{Group}
use Rattle.given.specs.Pushing.{empty_verdict, style_push_verdict, pushed_style, group_verdict, pushed_group, cascade_verdict, pushed_cascade}

-- "property ids u16"
abbrev pub Halves : List ℕ → Type 0
Halves properties = (k : ℕ) → get_or properties k 0 < Sizes.PROPERTY-IDS

-- The memory after accepted calls, of the calls' own definitions
pub data Made : List ℕ → Type 0 where
  empty : (w : List ℕ) → empty_verdict w ≡ 0 → Made (emptied w)
  style : {w : List ℕ} → Made w → (origin : ℕ) (properties kinds numbers : List ℕ) (n : ℕ) → Halves properties
      → style_push_verdict w origin properties kinds numbers n ≡ 0 → Made (pushed_style w origin properties kinds numbers n)
  group : {w : List ℕ} → Made w → (origin : ℕ) (g : Group) (n : ℕ) → Halves g.properties → group_verdict w origin g n ≡ 0 → Made (pushed_group w origin g n)
  cascade : {w v : List ℕ} → Made w → Made v → cascade_verdict w v ≡ 0 → Made (pushed_cascade w v)
