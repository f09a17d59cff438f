-- When a call on a table is refused: 01's table and its "Order". Assumes nothing.
use Rattle.std.specs.Prelude.{Bool, ◌&&◌, ◌||◌, not, List, [], ◌∷◌, ◌++◌, ℕ, ltb, eqb}
use Rattle.theory.specs.Sizes
use Rattle.lent.specs.Refusals.{Check, check, first_of}
use Rattle.selector.specs.Rows.{row_at}
use Rattle.selector.specs.Checks.{row_fits, tags_ascend}
use Rattle.sheet.specs.Shape.{sheet_shape}
use Rattle.table.specs.Tables
use Rattle.table.specs.Shape.{table_shape}
use Rattle.table.specs.Entering.{root_lacks_room, lacks_room}

-- "a lent sheet or table breaks its shape"
unfoldable pub broken : List ℕ → Tables.Table → Bool
broken w t = not (sheet_shape w && table_shape w t)

-- "a state's stamp differs from the table's, or its number is not below the state count"
unfoldable pub not_a_state : List ℕ → ℕ → ℕ → Bool
not_a_state head number stamp = not (eqb stamp (Tables.stamp_in head)) || not (ltb number (Tables.states_in head))

-- "Build 11 (sheet), 6, 5."
unfoldable pub build_verdict : List ℕ → ℕ → List ℕ → List ℕ → ℕ
build_verdict w ranking states cursors = first_of (check 11 (not (sheet_shape w)) ∷ check 6 (ltb Sizes.RANKING ranking) ∷ check 5 (root_lacks_room w states cursors) ∷ [])

-- "Matched list and winner 11, 4."
abbrev pub state_checks : List ℕ → Tables.Table → ℕ → ℕ → List Check
state_checks w t number stamp = check 11 (broken w t) ∷ check 4 (not_a_state t.head number stamp) ∷ []

unfoldable pub state_verdict : List ℕ → Tables.Table → ℕ → ℕ → ℕ
state_verdict w t number stamp = first_of (state_checks w t number stamp)

-- "entering 11, 4, 2, 1, 5"; the subject is a row of 38 words
abbrev pub subject_checks : List ℕ → List Check
subject_checks row = check 2 (not (row_fits Sizes.SUBJECT-IDS row 0)) ∷ check 1 (not (tags_ascend (row_at 16 row 0))) ∷ []

unfoldable pub enter_verdict : List ℕ → Tables.Table → ℕ → ℕ → List ℕ → ℕ
enter_verdict w t number stamp row = first_of (state_checks w t number stamp ++ (subject_checks row ++ check 5 (lacks_room w t number row) ∷ []))
