-- The rules that a path has. Assumes nothing.
use Rattle.std.specs.Prelude.{List, ℕ}
use Rattle.theory.specs.Lists.{select}
use Rattle.theory.specs.States.{rule}
use Rattle.theory.specs.Tails.{fits_tail}
use Rattle.selector.specs.Tags.{Tags, step_matches}
use Rattle.sheet.specs.Layout.{rules_in}
use Rattle.table.specs.Tables.{selectors_of}

-- Demand 3: "the rules that fit some tail of it, ascending, once each". Of the sheet's rules those whose selector has steps and fits a tail of the path, in order
abbrev pub rules_on : List ℕ → List Tags → List ℕ
rules_on w path = select (λ k. fits_tail step_matches (rule (selectors_of w) k) path) (rules_in w)
