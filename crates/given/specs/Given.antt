-- Styles and groups of rules as they are given, in lent lists. Assumes nothing.
use Rattle.std.specs.Prelude.{List, ℕ, ◌+◌, ◌*◌, get_or, drop}
use Rattle.theory.specs.Lists.{spread, sum_below}
use Rattle.theory.specs.Paths.{Selector}
use Rattle.selector.specs.Tags.{Tags}
use Rattle.selector.specs.Rows.{selector_of}
use Rattle.style.specs.Entries.{Entry, entries_of}
use Rattle.sheet.specs.Sheets.{Style, Rule}
use Rattle.given.specs.declared.GroupLists.{GroupLists}

-- A direct style: n entries
abbrev pub style_given : ℕ → ℕ → List ℕ → List ℕ → List ℕ → ℕ → Style
style_given origin source properties kinds numbers n = record { origin = origin; source = source; entries = entries_of properties kinds numbers n }

-- A group of rules: three words a rule, how many steps, combinators and entries it has; then, of all rules one after the other,
-- steps in rows of 22 words, combinators, and entries in three lists
pub record Group : Type 0 where
  pub rules : List ℕ
  pub steps : List ℕ
  pub combinators : List ℕ
  pub properties : List ℕ
  pub kinds : List ℕ
  pub numbers : List ℕ

abbrev pub given : List ℕ → List ℕ → List ℕ → List ℕ → List ℕ → List ℕ → Group
given r s c p k n = record { rules = r; steps = s; combinators = c; properties = p; kinds = k; numbers = n }

-- what lent lists give
abbrev pub group_of : GroupLists → Group
group_of g = given g.rules.now g.steps.now g.combinators.now g.entries.properties.now g.entries.kinds.now g.entries.numbers.now

abbrev pub step_count : Group → ℕ → ℕ
step_count g k = get_or g.rules (3 * k) 0

abbrev pub combinator_count : Group → ℕ → ℕ
combinator_count g k = get_or g.rules (3 * k + 1) 0

abbrev pub entry_count : Group → ℕ → ℕ
entry_count g k = get_or g.rules (3 * k + 2) 0

-- Rule k's items begin where rule k-1's end
abbrev pub steps_from : Group → ℕ → List ℕ
steps_from g k = drop (22 * sum_below (step_count g) k) g.steps

abbrev pub combinators_from : Group → ℕ → List ℕ
combinators_from g k = drop (sum_below (combinator_count g) k) g.combinators

abbrev pub properties_from : Group → ℕ → List ℕ
properties_from g k = drop (sum_below (entry_count g) k) g.properties

abbrev pub kinds_from : Group → ℕ → List ℕ
kinds_from g k = drop (sum_below (entry_count g) k) g.kinds

abbrev pub numbers_from : Group → ℕ → List ℕ
numbers_from g k = drop (sum_below (entry_count g) k) g.numbers

-- "A step's required ids may come in any order and repeated; they are sorted and made unique": selector_of
unfoldable pub selector_given : Group → ℕ → Selector Tags
selector_given g k = selector_of (steps_from g k) (combinators_from g k) (step_count g k)

unfoldable pub entries_given : Group → ℕ → List Entry
entries_given g k = entries_of (properties_from g k) (kinds_from g k) (numbers_from g k) (entry_count g k)

-- the order in its group is k
unfoldable pub rule_given : ℕ → ℕ → Group → ℕ → Rule
rule_given origin source g k = record { origin = origin; source = source; order = k; selector = selector_given g k; entries = entries_given g k }

-- The first n rules
unfoldable pub rules_given : ℕ → ℕ → Group → ℕ → List Rule
rules_given origin source g n = spread (rule_given origin source g) 0 n
