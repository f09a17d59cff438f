-- 01, "`RuleCursor` keeps its place in that part and yields rule numbers, ascending": a cursor over what `matching_rules` gives of a reached state. Assumes nothing.
use mathlib.Core.Path.{◌≡◌, ◌∙◌}
use mathlib.Core.List.{List}
use Prim.Native.Nat.{ℕ, ◌≤◌}
use lib.ListN.{length}
use denote.Ref.{Bor}
use Rattle.theory.specs.Lists.{Ascending}
use Rattle.selector.specs.Tags.{Tags}
use Rattle.table.specs.Tables.{Table}
use Rattle.matcher.specs.Answers.{Rules}
use Rattle.cursor.specs.Yielding.{yielded}
use Rattle.cursor.proofs.Yielding.{yields_all}
use Rattle.covered.specs.Covered.{Reached}
use Rattle.promises.specs.Paths.{rules_on}
use Rattle.promises.proofs.Calls.{rules_given_lem, rules_ascending}

module _ {w : List ℕ} {t : Table} {number stamp : ℕ} {path : List Tags} (p : Reached w t number stamp path) {whole part : Bor (List ℕ)} (g : Rules w t number stamp whole part)
    (n : ℕ) (enough : length part.now ≤ n) where
  -- from its first place, so many steps or more yield the sheet's rules that fit, in order and each once,
  pub cursor_yields : yielded part.now n 0 ≡ rules_on w path
  cursor_yields = yields_all part.now n enough ∙ rules_given_lem p g

  -- ascending
  pub cursor_ascending : Ascending (yielded part.now n 0)
  cursor_ascending = rw (yields_all part.now n enough) (rules_ascending p g)
