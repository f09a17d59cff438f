-- When a path call refuses, and what: 01's table and its "Order". Assumes nothing.
use Rattle.std.specs.Prelude.{Bool, ◌&&◌, ◌||◌, not, List, [], ◌∷◌, ℕ, ◌+◌, ◌-◌, ◌*◌, ◌/◌, length, get_or, ltb, eqb}
use Rattle.theory.specs.Sizes
use Rattle.theory.specs.Lists.{ascends}
use Rattle.lent.specs.Refusals.{check, first_of}
use Rattle.lent.specs.All.{all_below}
use Rattle.selector.specs.Tags.{Tags}
use Rattle.selector.specs.Rows.{subject_at}

-- "a count is over its size", of a row's two counts: neither is
abbrev pub row_fits : ℕ → List ℕ → ℕ → Bool
row_fits size words at = not (ltb size (get_or words (at + 4) 0)) && not (ltb size (get_or words (at + 5) 0))

-- "a count is over its size above or past the lent list it counts": at most 8 steps, in whole rows, each with at most 8 classes and 8 pseudos
-- as given; combinators within the list lent
unfoldable pub selector_over : List ℕ → ℕ → List ℕ → ℕ → Bool
selector_over steps n combinators c =
    ltb Sizes.STEPS n || (ltb (length steps / 22) n || (ltb (length combinators) c || not (all_below n (λ k. row_fits Sizes.STEP-IDS steps (22 * k)))))

-- at most 32 places, in whole rows, each with at most 16 classes and 16 pseudos as given
unfoldable pub path_over : List ℕ → ℕ → Bool
path_over path m = ltb Sizes.PATH m || (ltb (length path / 38) m || not (all_below m (λ i. row_fits Sizes.SUBJECT-IDS path (38 * i))))

-- "combinators are not one fewer than steps (none for no steps)"
abbrev pub combinators_off : ℕ → ℕ → Bool
combinators_off n c = not (eqb c (n - 1))

-- "a combinator code over 1"
unfoldable pub codes_over : List ℕ → ℕ → Bool
codes_over combinators c = not (all_below c (λ j. not (ltb Sizes.COMBINATOR (get_or combinators j 0))))

abbrev pub tags_ascend : Tags → Bool
tags_ascend t = ascends t.classes && ascends t.pseudos

-- "a subject's ids .. are not strictly ascending"
unfoldable pub subjects_off : List ℕ → ℕ → Bool
subjects_off path m = not (all_below m (λ i. tags_ascend (subject_at path i)))

-- "Matching and diagnosis 2 (selector, then path), 3, 6, 1."
unfoldable pub path_verdict : List ℕ → ℕ → List ℕ → ℕ → List ℕ → ℕ → ℕ
path_verdict steps n combinators c path m =
    first_of (check 2 (selector_over steps n combinators c) ∷ check 2 (path_over path m) ∷ check 3 (combinators_off n c) ∷ check 6 (codes_over combinators c) ∷ check 1 (subjects_off path m) ∷ [])

-- Of a selector alone: 2, 3, 6
unfoldable pub selector_verdict : List ℕ → ℕ → List ℕ → ℕ → ℕ
selector_verdict steps n combinators c =
    first_of (check 2 (selector_over steps n combinators c) ∷ check 3 (combinators_off n c) ∷ check 6 (codes_over combinators c) ∷ [])
