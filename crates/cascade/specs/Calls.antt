-- What changes between a table's states, and when the calls refuse: 01, "Weight, winners, changes" and "Order". Assumes nothing.
use Rattle.std.specs.Prelude.{not, List, [], ◌∷◌, ◌++◌, ℕ}
use Rattle.lent.specs.Refusals.{Check, check, first_of}
use Rattle.sheet.specs.Shape.{sheet_shape}
use Rattle.table.specs.Tables.{Table, ranking_in}
use Rattle.table.specs.Calls.{not_a_state, state_checks}
use Rattle.changeset.specs.Sets.{too_short}
use Rattle.changes.specs.Changes.{changed_of, resource_dependent}
use Rattle.looking.specs.Calls.{rules_at}

-- ---- from one state to another; the ranking that the table was built with picks the weight

-- what changes from state `old` to state `new`
abbrev pub changed_in : List ℕ → Table → ℕ → ℕ → List ℕ
changed_in w t old new = changed_of w (ranking_in t.head) (rules_at t old) (rules_at t new)

-- ---- refusals

-- "channels of two states 11, 4": old, then new
abbrev pub pair_checks : List ℕ → Table → ℕ → ℕ → ℕ → ℕ → List Check
pair_checks w t old oldStamp new newStamp = state_checks w t old oldStamp ++ check 4 (not_a_state t.head new newStamp) ∷ []

unfoldable pub pair_verdict : List ℕ → Table → ℕ → ℕ → ℕ → ℕ → ℕ
pair_verdict w t old oldStamp new newStamp = first_of (pair_checks w t old oldStamp new newStamp)

-- "Changed list 11, 4 (old, then new), 8"
unfoldable pub changed_verdict : List ℕ → Table → ℕ → ℕ → ℕ → ℕ → List ℕ → ℕ
changed_verdict w t old oldStamp new newStamp out = first_of (pair_checks w t old oldStamp new newStamp ++ too_short (changed_in w t old new) out ∷ [])

-- "Resource-dependent list 11, 8"
unfoldable pub resource_verdict : List ℕ → List ℕ → ℕ
resource_verdict w out = first_of (check 11 (not (sheet_shape w)) ∷ too_short (resource_dependent w) out ∷ [])
