-- Which properties have to be asked: those of rules that are listed on one side only. For contracts within and cores alone. Assumes nothing.
use Rattle.std.specs.Prelude.{cond, ℕ, drop}
use mathlib.Core.List.{List, [], flat_map}
use Rattle.theory.specs.Lists.{member}
use Rattle.lent.specs.Pool.{list_at}
use Rattle.sheet.specs.Layout.{ENTRY}
use Rattle.sheet.specs.Sheets.{rule_entry_ends}

-- the property ids of a rule, as they stand in the pool
abbrev pub properties_of : List ℕ → ℕ → List ℕ
properties_of w r = list_at (rule_entry_ends w) (drop ENTRY w) r

-- those of the rules that are not among the others
unfoldable pub properties_without : List ℕ → List ℕ → List ℕ → List ℕ
properties_without w rules others = flat_map (λ r. cond (member r others) [] (properties_of w r)) rules
