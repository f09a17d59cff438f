-- The style or group that records 2 to 7 open and fill, in the lists that its push is given: 01, "House records". Assumes nothing.
use Rattle.std.specs.Prelude.{cond, List, [], ◌∷◌, ◌++◌, ℕ, ◌+◌, ◌-◌, ◌/◌, length, get_or, set, drop, eqb}
use Rattle.std.proofs.lemmas.List.Edits.{sets}
use Rattle.selector.specs.Rows.{selector_of}
use Rattle.sheet.specs.Laying.{ids_held}
use Rattle.given.specs.Given.{Group, given}
use Rattle.given.specs.Pushing.{style_push_verdict, pushed_style, group_verdict, pushed_group}
use Rattle.records.specs.Rows.{empty_row, with_item}

-- A direct style's entries stand in the last three lists
pub data Open : Type 0 where
  nothing : Open
  direct : ℕ → Group → Open
  group : ℕ → Group → Open

abbrev pub none : Group
none = given [] [] [] [] [] []

-- ---- how much was given

abbrev pub rule_count : Group → ℕ
rule_count g = length g.rules / 3

abbrev pub steps_given : Group → ℕ
steps_given g = length g.steps / 22

abbrev pub entries_given : Group → ℕ
entries_given g = length g.properties

-- the ids that its steps require, as held: each step's are sets
unfoldable pub ids_given : Group → ℕ
ids_given g = ids_held (selector_of g.steps [] (steps_given g))

-- of the last rule, its three counts: steps, combinators, entries; 0 with no rule
abbrev pub last_of : Group → ℕ → ℕ
last_of g i = get_or g.rules (length g.rules - 3 + i) 0

-- ---- one thing more

-- one more of the last rule's steps (0), combinators (1) or entries (2)
abbrev pub one_more : ℕ → List ℕ → List ℕ
one_more i l = set l (length l - 3 + i) (get_or l (length l - 3 + i) 0 + 1)

-- "4 rule"
unfoldable pub with_rule : Group → Group
with_rule g = given (g.rules ++ 0 ∷ 0 ∷ 0 ∷ []) g.steps g.combinators g.properties g.kinds g.numbers

-- "5 step: combinator 1 (0 child, 1 descendant; 0 at the first)": a rule's first step has none before it
unfoldable pub with_step : ℕ → Group → Group
with_step code g =
    cond (eqb (last_of g 0) 0)
    (given (one_more 0 g.rules) (g.steps ++ empty_row 8) g.combinators g.properties g.kinds g.numbers)
    (given (one_more 1 (one_more 0 g.rules)) (g.steps ++ empty_row 8) (g.combinators ++ code ∷ []) g.properties g.kinds g.numbers)

-- "6 requirement of the last step"
abbrev pub last_row : Group → List ℕ
last_row g = drop (length g.steps - 22) g.steps

unfoldable pub with_requirement : ℕ → ℕ → Group → Group
with_requirement which id g =
    given g.rules (sets g.steps (length g.steps - 22) (with_item 8 which id (last_row g))) g.combinators g.properties g.kinds g.numbers

-- "7 entry of the last style": of the direct style, or of the last rule
abbrev pub with_entry_in : List ℕ → ℕ → ℕ → ℕ → Group → Group
with_entry_in counts property kind number g =
    given counts g.steps g.combinators (g.properties ++ property ∷ []) (g.kinds ++ kind ∷ []) (g.numbers ++ number ∷ [])

unfoldable pub with_entry : ℕ → ℕ → ℕ → Open → Open
with_entry property kind number nothing = nothing
with_entry property kind number (direct origin g) = direct origin (with_entry_in g.rules property kind number g)
with_entry property kind number (group origin g) = group origin (with_entry_in (one_more 2 g.rules) property kind number g)

-- ---- "the style or group that a 2, 3 or 8 closes is pushed, or refused there"

unfoldable pub close_verdict : List ℕ → Open → ℕ
close_verdict w nothing = 0
close_verdict w (direct origin g) = style_push_verdict w origin g.properties g.kinds g.numbers (entries_given g)
close_verdict w (group origin g) = group_verdict w origin g (rule_count g)

unfoldable pub closed : List ℕ → Open → List ℕ
closed w nothing = w
closed w (direct origin g) = pushed_style w origin g.properties g.kinds g.numbers (entries_given g)
closed w (group origin g) = pushed_group w origin g (rule_count g)
