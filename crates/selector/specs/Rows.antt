-- Lent rows of words: a subject row has 38, a step row 22. Assumes nothing.
use Rattle.std.specs.Prelude.{cond, List, ℕ, zero, suc, ◌+◌, ◌*◌, get_or, take, drop, eqb}
use Rattle.std.proofs.Math.Option.{Option, none, some}
use Rattle.theory.specs.Lists.{spread}
use Rattle.theory.specs.Paths.{Comb, child, descendant, Selector}
use Rattle.selector.specs.declared.SelectorCombinator.{SelectorCombinator}
use Rattle.selector.specs.declared.SelectorCombinator.TheVariants.{Child, Descendant}
use Rattle.selector.specs.Tags.{Tags, as_sets}

-- A row is type flag, type, part flag, part, class count, pseudo count, and room for `size` classes and `size` pseudos: 6 + 2 * size words

-- A flag that isn't 0 means set: docs/DECISIONS.md
abbrev pub tag_of : ℕ → ℕ → Option ℕ
tag_of flag tag = cond (eqb flag 0) none (some tag)

-- and of one that isn't set the number is 0
abbrev pub tag_number : Option ℕ → ℕ
tag_number none = 0
tag_number (some n) = n

-- the first n of the words from `at` on
abbrev pub words_from : List ℕ → ℕ → ℕ → List ℕ
words_from words at n = take n (drop at words)

-- The row that begins at word `at`
unfoldable pub row_at : ℕ → List ℕ → ℕ → Tags
row_at size words at = record {
  type = tag_of (get_or words at 0) (get_or words (at + 1) 0);
  part = tag_of (get_or words (at + 2) 0) (get_or words (at + 3) 0);
  classes = words_from words (at + 6) (get_or words (at + 4) 0);
  pseudos = words_from words (at + (6 + size)) (get_or words (at + 5) 0);
}

-- Step k and place i. A step's ids may come in any order and repeated: what it requires are their sets
abbrev pub step_at : List ℕ → ℕ → Tags
step_at steps k = as_sets (row_at 8 steps (22 * k))

abbrev pub subject_at : List ℕ → ℕ → Tags
subject_at path i = row_at 16 path (38 * i)

-- "0 child, 1 descendant"
abbrev pub comb_of : ℕ → Comb
comb_of code = cond (eqb code 0) child descendant

-- The same as the code's own
abbrev pub combinator_of : ℕ → SelectorCombinator
combinator_of code = cond (eqb code 0) Child Descendant

-- the combinator before step k: the one after step k-1
abbrev pub comb_before : List ℕ → ℕ → Comb
comb_before combinators zero = child
comb_before combinators (suc k) = comb_of (get_or combinators k 0)

-- The selector of n steps, and the path of m places
unfoldable pub selector_of : List ℕ → List ℕ → ℕ → Selector Tags
selector_of steps combinators n = spread (λ k. record { comb = comb_before combinators k; step = step_at steps k }) 0 n

unfoldable pub path_of : List ℕ → ℕ → List Tags
path_of path m = spread (subject_at path) 0 m
