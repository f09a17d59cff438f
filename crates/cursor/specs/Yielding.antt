-- What a cursor over a list of rules yields: 01, "`RuleCursor` keeps its place in that part and yields rule numbers, ascending." Assumes nothing.
use Rattle.std.specs.Prelude.{cond, List, [], ◌∷◌, ◌++◌, ℕ, zero, suc, ◌+◌, length, get_or, drop, ltb, Option, Some, None}
use Rattle.cursor.specs.declared.RuleCursor.{RuleCursor}

-- the answer as numbers: 1 and the rule, or 0 at the end
abbrev pub next_told : Option ℕ → List ℕ
next_told (Some r) = 1 ∷ r ∷ []
next_told None = 0 ∷ []

-- What a cursor at an index tells, and its index afterwards
unfoldable pub next_of : List ℕ → ℕ → List ℕ
next_of rules index = cond (ltb index (length rules)) (1 ∷ get_or rules index 0 ∷ []) (0 ∷ [])

unfoldable pub index_after : List ℕ → ℕ → ℕ
index_after rules index = cond (ltb index (length rules)) (index + 1) index

-- The rule numbers that n steps from an index yield
unfoldable pub yielded : List ℕ → ℕ → ℕ → List ℕ
yielded rules zero index = []
yielded rules (suc n) index = drop 1 (next_of rules index) ++ yielded rules n (index_after rules index)

-- What a cursor has still to yield
abbrev pub rules_left : RuleCursor → List ℕ
rules_left c = drop c.index c.rules.now
