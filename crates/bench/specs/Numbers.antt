-- The answers as one number, where one stands for every refusal. Assumes nothing.
use Rattle.std.specs.Prelude.{◌≡◌, cond, List, [], ℕ, eqb, length, Result, Ok, Err, Option, Some, None, ⊤}
use Rattle.std.proofs.lemmas.List.Edits.{sets}
use Rattle.lent.specs.declared.Refusal.{Refusal}
use Rattle.matcher.specs.declared.MatchState.{MatchState}
use Rattle.table.specs.Tables.{Table, matched_at}
use Rattle.table.specs.Entering.{built, lacks_room, child_of, entered}
use Rattle.table.specs.Calls.{state_verdict, build_verdict, enter_verdict}

-- what stands for every refusal
abbrev pub REFUSED : ℕ
REFUSED = 65536

-- of a push and of a build
abbrev pub done_number : Result ⊤ Refusal → ℕ
done_number (Ok u) = 0
done_number (Err r) = REFUSED

abbrev pub enter_number : Result MatchState Refusal → ℕ
enter_number (Ok s) = s.number
enter_number (Err r) = REFUSED

abbrev pub settled_number : Option ℕ → ℕ
settled_number (Some n) = n
settled_number None = REFUSED

-- `verdict` is the refusal's number, 0 for none. A refused call changes no word; an accepted one answers `number` and leaves `accepted`
pub record Outcome {M : Type 0} (verdict number : ℕ) (before accepted : M) (r : ℕ) (after : M) : Type 0 where
  pub answer : r ≡ cond (eqb verdict 0) number REFUSED
  pub memory : after ≡ cond (eqb verdict 0) accepted before

module _ (w : List ℕ) where
  abbrev pub Builds : ℕ → Table → ℕ → Table → Type 0
  Builds stamp t r t' = Outcome (build_verdict w 0 t.states t.cursors) 0 t (built w stamp 0 t) r t'

  abbrev pub Enters : Table → ℕ → ℕ → List ℕ → ℕ → Table → Type 0
  Enters t number stamp row r t' = Outcome (enter_verdict w t number stamp row) (child_of w t number row) t (entered w t number row) r t'

  -- where room alone can lack
  abbrev pub EntersHeld : Table → ℕ → List ℕ → ℕ → Table → Type 0
  EntersHeld t number row r t' = Outcome (cond (lacks_room w t number row) 5 0) (child_of w t number row) t (entered w t number row) r t'

  -- a state's rules, none where it is refused
  abbrev pub rules_of : Table → ℕ → ℕ → List ℕ
  rules_of t number stamp = cond (eqb (state_verdict w t number stamp) 0) (matched_at t.states t.matched number) []

-- a list copied out, as far as there is room; how long it is
pub record Copied (list before : List ℕ) (r : ℕ) (after : List ℕ) : Type 0 where
  pub count : r ≡ length list
  pub whole : after ≡ sets before 0 list
