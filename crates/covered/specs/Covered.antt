-- The tables and states that demand 3 speaks of, by the calls alone. Assumes nothing.
use Rattle.std.specs.Prelude.{◌≡◌, ◌≢◌, List, [], ◌∷◌, ◌++◌, ℕ, ◌+◌, ◌<◌, length}
use Rattle.selector.specs.Tags.{Tags}
use Rattle.typed.specs.declared.SelectorInputs.{SelectorInputs}
use Rattle.typed.specs.Typed.{inputs_tags, inputs_row}
use Rattle.table.specs.Tables.{Table, states_in, state_at}
use Rattle.table.specs.Entering
use Rattle.table.specs.Calls.{build_verdict, enter_verdict}

-- Build and an entering that are accepted, over words: `w` is the sheet's. The head has eight words, being an array of eight
abbrev pub Builds : List ℕ → ℕ → Table → Type 0
Builds w ranking t = (length t.head ≡ 8) × (build_verdict w ranking t.states t.cursors ≡ 0)

abbrev pub Enters : List ℕ → Table → ℕ → ℕ → SelectorInputs → Type 0
Enters w t number stamp x = enter_verdict w t number stamp (inputs_row x) ≡ 0

module _ (w : List ℕ) where
  -- Demand 3: "a table built of it and written only by accepted calls, in any order". Build makes it anew, entering is the only other call that writes a table,
  -- and a refused call changes nothing
  pub data Covered : Table → Type 0 where
    built : (t : Table) (stamp ranking : ℕ) → Builds w ranking t → Covered (Entering.built w stamp ranking t)
    entered : {t : Table} → Covered t → (number stamp : ℕ) (x : SelectorInputs) → Enters w t number stamp x → Covered (Entering.entered w t number (inputs_row x))

  -- "a state reached by a path" from the root since the last build: its number and its stamp, as the calls answered
  pub data Reached : Table → ℕ → ℕ → List Tags → Type 0 where
    -- the root, by the empty path
    root : (t : Table) (stamp ranking : ℕ) → Builds w ranking t → Reached (Entering.built w stamp ranking t) 0 stamp []
    -- the child that an accepted entering under a reached state answers, by one subject more
    child : {t : Table} {number stamp : ℕ} {path : List Tags} → Reached t number stamp path → (x : SelectorInputs) → Enters w t number stamp x
        → Reached (Entering.entered w t number (inputs_row x)) (Entering.child_of w t number (inputs_row x)) stamp (path ++ inputs_tags x ∷ [])
    -- and it stays reached after any accepted entering
    later : {t : Table} {number stamp : ℕ} {path : List Tags} → Reached t number stamp path → (number' stamp' : ℕ) (x : SelectorInputs) → Enters w t number' stamp' x
        → Reached (Entering.entered w t number' (inputs_row x)) number stamp path

  -- any number of accepted enterings
  pub data After (t : Table) : Table → Type 0 where
    none : After t t
    more : {t' : Table} → After t t' → (number stamp : ℕ) (x : SelectorInputs) → Enters w t' number stamp x → After t (Entering.entered w t' number (inputs_row x))

-- 01, "States": "An equal state already held is reused; otherwise it gets the next number." Of an entering from t to t' that answers k: the child is the
-- state that t' has under k
pub data Numbered (t t' : Table) (k : ℕ) : Type 0 where
  reused : k < states_in t.head → state_at t k ≡ state_at t' k → states_in t'.head ≡ states_in t.head → Numbered t t' k
  next : ((i : ℕ) → i < states_in t.head → state_at t i ≢ state_at t' k) → k ≡ states_in t.head → states_in t'.head ≡ states_in t.head + 1 → Numbered t t' k
