-- When a style in lent lists is refused, and how: 01's table. Assumes nothing.
use Rattle.std.specs.Prelude.{Bool, ◌||◌, not, List, [], ◌∷◌, ℕ, length, take, ltb}
use Rattle.theory.specs.Sizes
use Rattle.theory.specs.Lists.{ascends, at_most}
use Rattle.lent.specs.Refusals.{check, first_of}

-- "a count is over its size above or past the lent list it counts": at most 32 entries, in each of the three lists
unfoldable pub entries_over : List ℕ → List ℕ → List ℕ → ℕ → Bool
entries_over properties kinds numbers n = ltb Sizes.STYLE-ENTRIES n || (ltb (length properties) n || (ltb (length kinds) n || ltb (length numbers) n))

-- "an entry kind over 3"
unfoldable pub kinds_over : List ℕ → ℕ → Bool
kinds_over kinds n = not (at_most Sizes.ENTRY-KIND (take n kinds))

-- "a style's property ids are not strictly ascending"
unfoldable pub properties_off : List ℕ → ℕ → Bool
properties_off properties n = not (ascends (take n properties))

-- Of a style alone: 2, 6, 1
unfoldable pub style_verdict : List ℕ → List ℕ → List ℕ → ℕ → ℕ
style_verdict properties kinds numbers n =
    first_of (check 2 (entries_over properties kinds numbers n) ∷ check 6 (kinds_over kinds n) ∷ check 1 (properties_off properties n) ∷ [])
