-- Demand 3, its first half: which rules a state lists, that a fresh table lists the same, and what accepted calls leave. Assumes nothing.
-- `Covered w t`: t is "a table built of it and written only by accepted calls, in any order"; a refused call writes nothing (Calls.antt).
-- `Reached w t number stamp path`: t is such a table, and these are the number and stamp of "a state reached by a path" from the root, with
-- any calls in between; 01: "A walk may be of any depth".
-- `w` is the words of the sheet, the same at every call. That it was made by accepted pushes is asked only where build has to accept it: any sheet that
-- build accepts will do.
use mathlib.Core.Path.{◌≡◌, sym, ◌∙◌}
use mathlib.Core.Bool.{true, false}
use mathlib.Core.Logic.{◌↔◌, inl, inr}
use mathlib.Core.List.{List, map}
use Prim.Native.Nat.{ℕ, ◌≤◌, ◌<◌}
use native.Mathlib.Omega.{arith}
use lib.ListN.{length, replicate}
use Rattle.theory.specs.Lists.{◌∈◌, Ascending}
use Rattle.theory.specs.Paths.{FitsTail}
use Rattle.theory.specs.States.{rule, enter}
use Rattle.theory.proofs.Spreads.{length_spread}
use Rattle.lent.specs.Pool.{start_of, list_at}
use Rattle.selector.specs.Tags.{Tags, step_matches}
use Rattle.typed.specs.declared.SelectorInputs.{SelectorInputs}
use Rattle.typed.specs.Typed.{inputs_tags, inputs_row}
use Rattle.made.specs.Made.{Made}
use Rattle.made.proofs.Promises.{made_shaped}
use Rattle.table.specs.Tables.{Table, selectors_of, states_in, transitions_in, matched_ends, matched_at, state_at}
use Rattle.table.specs.Entering.{transition_fits, built, entered, child_of}
use Rattle.table.specs.Calls.{broken}
use Rattle.covered.specs.Covered.{Builds, Enters, Covered, Reached, After, Numbered}
use Rattle.covered.specs.Covered.Numbered.{reused, next}
use Rattle.covered.specs.Covered.Reached.{root}
use Rattle.covered.specs.Rooms.{held_in, Roomy, Proper, verdicts_along, table_along, number_along}
use Rattle.covered.proofs.Known.{below}
use Rattle.covered.proofs.Keeps.{states_stay}
use Rattle.covered.proofs.Reached as States
use Rattle.covered.proofs.Promises as Left
use Rattle.covered.proofs.Rooms.{rooms_build, rooms_suffice}
use Rattle.promises.specs.Paths.{rules_on}
use Rattle.promises.proofs.Along.{along_reached, reached_proper}

-- 01, "How much each contract says": the state count is "the length of a defined list", of the states held. What that list is: Calls.antt, `build_holds_root`,
-- `enter_holds_child`
pub count_is_length : (t : Table) → states_in t.head ≡ length (held_in t)
count_is_length t = sym (length_spread (state_at t) 0 (states_in t.head))

module _ {w : List ℕ} where
  -- ---- "a state reached by a path lists exactly the rules that fit some tail of it, ascending, once each"; the root, reached by the empty one, lists nothing

  module _ {t : Table} {number stamp : ℕ} {path : List Tags} (r : Reached w t number stamp path) where
    -- a rule is listed exactly if its selector has steps and fits some tail of the path, end to end;
    pub listed_exactly : (k : ℕ) → (k ∈ (state_at t number).matched) ↔ ((0 < length (rule (selectors_of w) k)) × FitsTail step_matches (rule (selectors_of w) k) path)
    listed_exactly = States.listed_fits w r

    -- the list ascends, each rule once
    pub listed_ascending : Ascending (state_at t number).matched
    listed_ascending = States.listed_ascending w r

    -- so sheet and path determine the list: of the sheet's rules those that pass the test, in order
    pub listed_is : (state_at t number).matched ≡ rules_on w path
    listed_is = States.listed_is w r

  -- states of one table that have the same cursors and rules are one state
  pub equal_lists_one_state : {t : Table} → Covered w t → (i j : ℕ) → i < states_in t.head → j < states_in t.head → state_at t i ≡ state_at t j → i ≡ j
  equal_lists_one_state c = (States.covered_sound w c).known.distinct

  -- ---- "a fresh table gives that path the same rules .. whatever the numbers": one of the same sheet and ranking, with room

  -- in any two tables, whatever ranking, stamp, rooms and other calls; the cursors are the same as well
  pub same_path_same_lists : {t t' : Table} {number number' stamp stamp' : ℕ} {path : List Tags} → Reached w t number stamp path → Reached w t' number' stamp' path
      → state_at t number ≡ state_at t' number'
  same_path_same_lists = States.fresh_same w

  -- the subjects of that path (`reached_subjects`: each path that reached a state is one of subjects), entered into a fresh table
  module _ (xs : List SelectorInputs) {t : Table} {number stamp : ℕ} (r : Reached w t number stamp (map inputs_tags xs)) where
    module _ (fresh : Table) (eight : length fresh.head ≡ 8) (room : Roomy w (map inputs_tags xs) fresh) (ranking : ℕ) (ranks : ranking ≤ 1) (stamp' : ℕ) where
      -- build accepts the fresh table, every entering of the path is accepted,
      pub fresh_builds : Builds w ranking fresh
      fresh_builds = rooms_build w xs fresh room (States.covered_sheet w (States.reached_covered w r)) ranking ranks eight

      pub fresh_enters : verdicts_along w (built w stamp' ranking fresh) 0 stamp' xs ≡ replicate (length xs) 0
      fresh_enters = rooms_suffice w xs fresh room stamp' ranking fresh_builds (reached_proper xs r)

      -- and the last child has the same lists as the state reached before
      pub fresh_same_rules : state_at (table_along w (built w stamp' ranking fresh) 0 xs) (number_along w (built w stamp' ranking fresh) 0 xs) ≡ state_at t number
      fresh_same_rules = same_path_same_lists (along_reached xs (root fresh stamp' ranking fresh_builds) fresh_enters) r

  -- ---- with room: rooms, from the sheet and the path, that suffice; every entering of the path is then accepted

  -- `Roomy`: the different states along the path, the root among them, are at most 512, and there is room for them, their cursors and their rules;
  -- transitions need none
  -- `Proper`: the subject's counts are within their sizes, and its ids ascend
  module _ (made : Made w) (xs : List SelectorInputs) (t : Table) (eight : length t.head ≡ 8) (room : Roomy w (map inputs_tags xs) t) (ranking : ℕ) (ranks : ranking ≤ 1) where
    pub room_builds : Builds w ranking t
    room_builds = rooms_build w xs t room (made_shaped made) ranking ranks eight

    pub room_suffices : (stamp : ℕ) → ((x : SelectorInputs) → x ∈ xs → Proper x) → verdicts_along w (built w stamp ranking t) 0 stamp xs ≡ replicate (length xs) 0
    room_suffices stamp = rooms_suffice w xs t room stamp ranking room_builds

    -- so that the last child is reached by the path: what is said of reached states is said of these
    pub room_reaches : (stamp : ℕ) → ((x : SelectorInputs) → x ∈ xs → Proper x)
        → Reached w (table_along w (built w stamp ranking t) 0 xs) (number_along w (built w stamp ranking t) 0 xs) stamp (map inputs_tags xs)
    room_reaches stamp p = along_reached xs (root t stamp ranking room_builds) (room_suffices stamp p)

  -- ---- an accepted call keeps every earlier state's lists (01: "later entries leave that part unchanged"), and the number of states never falls; build apart, which begins anew

  -- `After w t t'`: from t to t' by accepted enterings, any number of them
  module _ {t t' : Table} (c : Covered w t) (a : After w t t') where
    pub states_never_fall : states_in t.head ≤ states_in t'.head
    states_never_fall = Left.states_more w c a

    pub states_kept : (k : ℕ) → k < states_in t.head → state_at t' k ≡ state_at t k
    states_kept = Left.state_kept w c a

    -- a matched list stays where it was handed out: from, to, and the numbers there
    pub part_kept : (k : ℕ) → k < states_in t.head
        → (start_of (matched_ends t'.states) k ≡ start_of (matched_ends t.states) k)
        × (matched_ends t'.states k ≡ matched_ends t.states k)
        × (list_at (matched_ends t.states) t'.matched k ≡ matched_at t.states t.matched k)
    part_kept k h = (Left.from_kept w c a k h, Left.to_kept w c a k h, Left.part_kept w c a k h)

  -- ---- two enterings of equal subjects from one parent give one child

  -- x is entered, then anything else, then y: that is accepted, room or not, and has the same child
  module _ {t : Table} (c : Covered w t) (number stamp : ℕ) (x : SelectorInputs) (v : Enters w t number stamp x) where
    pub equal_subjects_one_child : (y : SelectorInputs) → inputs_tags x ≡ inputs_tags y → {t' : Table} → After w (entered w t number (inputs_row x)) t'
        → Enters w t' number stamp y × (child_of w t' number (inputs_row y) ≡ child_of w t number (inputs_row x))
    equal_subjects_one_child y same a = (Left.equal_enters w c number stamp x v y same a, Left.equal_child w c number stamp x v y same a)

    -- 01: "An accepted entering keeps its transition if not yet held and there is room": with that room y is found again, and no word changes
    pub kept_found : transition_fits (transitions_in t.head) (length t.transitions) ≡ true → (y : SelectorInputs) → inputs_tags x ≡ inputs_tags y
        → {t' : Table} → After w (entered w t number (inputs_row x)) t' → entered w t' number (inputs_row y) ≡ t'
    kept_found room y same a = Left.equal_found w c number stamp x v y same a room

    -- ---- 01, "States": the child is the state of the subject under the parent, and "An equal state already held is reused; otherwise it gets the next number."

    pub child_state : state_at (entered w t number (inputs_row x)) (child_of w t number (inputs_row x)) ≡ enter step_matches (selectors_of w) (state_at t number) (inputs_tags x)
    child_state = Left.child_is w c number stamp x v

    pub next_number : Numbered t (entered w t number (inputs_row x)) (child_of w t number (inputs_row x))
    next_number =
        let k = child_of w t number (inputs_row x) in
        let s = States.covered_sound w c in
        let g = States.enters_right w s number stamp x v in
        let old = states_stay w s g.kept.stay in
        elim g.grows [
          | inl q ↦ let l : k < states_in t.head = omega (arith, g.leads.child) in reused l (sym (old k l)) q
          | inr (q, new) ↦ elim (below k (states_in t.head) (omega (arith, g.leads.child))) [
            | inl l ↦ absurd (new k l (sym (old k l) ∙ child_state))
            | inr e ↦ next (λ i l z. new i l (z ∙ child_state)) e q
          ]
        ]

  -- ---- such a table with its sheet is never refused by 11

  pub covered_in_shape : {t : Table} → Covered w t → broken w t ≡ false
  unfolding broken
  covered_in_shape c = rw (States.covered_sheet w c, States.covered_shaped w c)
