-- Demand 3 (README), over lent memory, by the contracts of the calls alone. "For a made sheet, a table built of it and written only by accepted calls, in any
-- order" (`Called`: last built of it, and the sheet unwritten since): three clauses. That the sheet was made is asked for the third alone. Assumes nothing.
use mathlib.Core.Path.{◌≡◌, refl, sym, ap, ◌∙◌}
use mathlib.Core.Logic.{◌≢◌, ◌↔◌}
use mathlib.Core.Option.{Option, none, some}
use mathlib.Core.List.{List, [], ◌∷◌, map}
use Prim.Native.Nat.{ℕ, ◌≤◌, ◌<◌}
use lib.ListN.{length, get_or, take, replicate}
use lib.Seq.{take-append_seam}
use denote.Ref.{Bor}
use Rattle.std.specs.Prelude.{Result, Ok}
use Rattle.std.specs.Prelude.{Option as Optional}
use Rattle.lent.specs.declared.Refusal.{Refusal}
use Rattle.looking.specs.declared.StyleSourceRef.{StyleSourceRef}
use Rattle.theory.specs.Sizes
use Rattle.theory.specs.Lists.{◌∈◌, Ascending}
use Rattle.theory.specs.Paths.{FitsTail}
use Rattle.theory.specs.States.{rule}
use Rattle.lent.specs.Refusals.{answered}
use Rattle.selector.specs.Tags.{Tags, step_matches}
use Rattle.typed.specs.declared.SelectorInputs.{SelectorInputs}
use Rattle.typed.specs.Typed.{inputs_tags}
use Rattle.made.specs.Made.{Made}
use Rattle.table.specs.Tables.{Table, selectors_of, ranking_in}
use Rattle.table.specs.Entering.{built}
use Rattle.table.specs.Calls.{state_verdict}
use Rattle.matcher.specs.Answers.{Rules}
use Rattle.building.proofs.Answers.{build_refused_is}
use Rattle.entering.proofs.Answers.{enter_refused_is}
use Rattle.winners.specs.Winners as winners
use Rattle.winners.specs.Winners.{Place, style}
use Rattle.changeset.specs.Sets.{Lists}
use Rattle.looking.specs.Calls.{winner_in}
use Rattle.looking.specs.Answers.{winning_told, winner_told}
use Rattle.looking.proofs.Distinct.{winning_distinct}
use Rattle.cascade.specs.Calls.{changed_in, changed_verdict}
use Rattle.covered.specs.Covered.{Builds, Reached}
use Rattle.covered.specs.Rooms.{Roomy, verdicts_along, table_along, number_along}
use Rattle.covered.proofs.Reached.{covered_sound, reached_covered, reached_is}
use Rattle.promises.specs.Called.{Called}
use Rattle.promises.specs.Called.Called.{built as is-built, entered, later, not_built, not_entered}
use Rattle.promises.proofs.Along.{reached_subjects, built_called, along_called}
use Rattle.promises.proofs.Listed.{fresh_builds, fresh_enters}
use Rattle.promises.proofs.Calls.{build_reaches, enter_reaches, enter_keeps, refused_build_keeps, refused_enter_keeps, reached_accepted, rules_exactly, rules_ascending, rules_given_lem}
use Rattle.promises.proofs.Changing.{changed_ascend, changed_exactly}
use Rattle.promises.proofs.CascadeCalls.{build_ranks, enter_ranks, winners_alike, changed_listed}

module _ {w : List ℕ} {ranking : ℕ} where
  -- such a state is reached, in the words of `covered`,
  pub called_reached : {t : Table} {number stamp : ℕ} {path : List Tags} → Called w ranking t number stamp path → Reached w t number stamp path
  called_reached (is-built eight b) = build_reaches eight b
  called_reached (entered c x u) = enter_reaches x (called_reached c) u
  called_reached (later c x u) = enter_keeps x (called_reached c) u
  called_reached (not_built c b) = refused_build_keeps b (called_reached c)
  called_reached (not_entered c u) = refused_enter_keeps u (called_reached c)

  -- and the table keeps the ranking of its build
  pub called_ranks : {t : Table} {number stamp : ℕ} {path : List Tags} → Called w ranking t number stamp path → ranking_in t.head ≡ ranking
  called_ranks (is-built eight b) = build_ranks eight b
  called_ranks (entered c x u) = enter_ranks x (reached_covered w (called_reached c)) u ∙ called_ranks c
  called_ranks (later c x u) = enter_ranks x (reached_covered w (called_reached c)) u ∙ called_ranks c
  called_ranks (not_built c b) = ap (λ (t : Table). ranking_in t.head) (build_refused_is b) ∙ called_ranks c
  called_ranks (not_entered c u) = ap (λ (t : Table). ranking_in t.head) (enter_refused_is u) ∙ called_ranks c

  -- ---- 1. "a state reached by a path lists exactly the rules that fit some tail of it, ascending, once each". 01: a rule without steps is never listed

  -- `matching_rules`, by its contract
  module _ {t : Table} {number stamp : ℕ} {path : List Tags} (c : Called w ranking t number stamp path) {whole part : Bor (List ℕ)} (g : Rules w t number stamp whole part) where
    pub lists_exactly : (k : ℕ) → (k ∈ part.now) ↔ ((0 < length (rule (selectors_of w) k)) × FitsTail step_matches (rule (selectors_of w) k) path)
    lists_exactly = rules_exactly (called_reached c) g

    pub lists_ascending : Ascending part.now
    lists_ascending = rules_ascending (called_reached c) g

  -- ---- 2. "a fresh table gives that path the same rules and winners whatever the numbers"

  -- in two tables of the sheet and the ranking
  module _ {t t' : Table} {number number' stamp stamp' : ℕ} {path : List Tags} (c : Called w ranking t number stamp path) (c' : Called w ranking t' number' stamp' path) where
    pub same_rules : {whole part whole' part' : Bor (List ℕ)} → Rules w t number stamp whole part → Rules w t' number' stamp' whole' part' → part.now ≡ part'.now
    same_rules g g' = rules_given_lem (called_reached c) g ∙ sym (rules_given_lem (called_reached c') g')

    -- `winning_source_for_id`, by its contract
    pub same_winners : (p : ℕ) (a a' : Result (Optional StyleSourceRef) Refusal)
        → winning_told a ≡ answered (state_verdict w t number stamp) (winner_told w (winner_in w t number p))
        → winning_told a' ≡ answered (state_verdict w t' number' stamp') (winner_told w (winner_in w t' number' p))
        → a ≡ a'
    same_winners p a a' e e' = winning_distinct a a' (winners_alike (called_reached c) (called_reached c') (called_ranks c ∙ sym (called_ranks c')) p a a' e e')

  -- the path is one of subjects,
  pub called_subjects : {t : Table} {number stamp : ℕ} {path : List Tags} → Called w ranking t number stamp path → (xs : List SelectorInputs) × (path ≡ map inputs_tags xs)
  called_subjects c = reached_subjects (called_reached c)

  -- and a fresh table with room (`Roomy`) for their states takes them all: build is accepted, every entering is, and then the state at last is one of which
  -- `same_rules` and `same_winners` speak. `built`, `table_along` and `number_along` are the memory and the state that the calls' contracts give
  module _ (xs : List SelectorInputs) {t : Table} {number stamp : ℕ} (c : Called w ranking t number stamp (map inputs_tags xs)) (fresh : Table)
      (eight : length fresh.head ≡ 8) (room : Roomy w (map inputs_tags xs) fresh) (stamp' : ℕ) where
    pub fresh_table : Builds w ranking fresh
        × (verdicts_along w (built w stamp' ranking fresh) 0 stamp' xs ≡ replicate (length xs) 0)
        × Called w ranking (table_along w (built w stamp' ranking fresh) 0 xs) (number_along w (built w stamp' ranking fresh) 0 xs) stamp' (map inputs_tags xs)
    fresh_table =
        let r = called_reached c in
        let ranks : ranking ≤ 1 = rw (called_ranks c) at (covered_sound w (reached_covered w r)).ranking in
        let b = fresh_builds xs r fresh eight room ranking ranks stamp' in
        let e = fresh_enters xs r fresh eight room ranking ranks stamp' in
        (b, e, along_called xs (built_called fresh stamp' b) e)

-- what is told of a winner tells it
read_place : List ℕ → Option Place
read_place l = get_or (none ∷ some (style (get_or l 2 0)) ∷ some (winners.rule (get_or l 2 0)) ∷ []) (get_or l 1 0) none

read_place_lem : (w : List ℕ) (x : Option Place) → read_place (winner_told w x) ≡ x
unfolding read_place
read_place_lem w none = refl
read_place_lem w (some (style d)) = refl
read_place_lem w (some (winners.rule r)) = refl

winner_distinct : (w : List ℕ) (x y : Option Place) → winner_told w x ≡ winner_told w y → x ≡ y
winner_distinct w x y e = sym (read_place_lem w x) ∙ ap read_place e ∙ read_place_lem w y

-- ---- 3. "the changed list names exactly the properties whose winning source differs"

module _ {w : List ℕ} (made : Made w) {ranking : ℕ} {t : Table} {old oldStamp new newStamp : ℕ} {from to : List Tags}
    (c : Called w ranking t old oldStamp from) (c' : Called w ranking t new newStamp to) {out after : List ℕ} {n : ℕ}
    (l : Lists (changed_verdict w t old oldStamp new newStamp out) (changed_in w t old new) out (Ok n) after) where
  listed : take n after ≡ changed_in w t old new
  listed =
      let (e, f) = changed_listed w t old oldStamp new newStamp out l in
      rw (f, e) (take-append_seam (changed_in w t old new) _)

  -- `changed_properties` and, in both states, `winning_source_for_id`; a property id is a u16
  pub changes_exactly : (p : ℕ) → p < Sizes.PROPERTY-IDS → (a b : Result (Optional StyleSourceRef) Refusal)
      → winning_told a ≡ answered (state_verdict w t old oldStamp) (winner_told w (winner_in w t old p))
      → winning_told b ≡ answered (state_verdict w t new newStamp) (winner_told w (winner_in w t new p))
      → (p ∈ take n after) ↔ (a ≢ b)
  changes_exactly p h a b e f =
      let (there, _, _) = reached_is w (called_reached c) in
      let (there', _, _) = reached_is w (called_reached c') in
      let law = changed_exactly made (reached_covered w (called_reached c)) there there' p in
      let x = rw (reached_accepted (called_reached c)) at e in
      let y = rw (reached_accepted (called_reached c')) at f in
      rw listed (
        λ m q. (law.0 m).1 (winner_distinct w _ _ (sym x ∙ ap winning_told q ∙ y)),
        λ d. law.1 (h, λ q. d (winning_distinct a b (x ∙ ap (winner_told w) q ∙ sym y))),
      )

  pub changes_ascending : Ascending (take n after)
  changes_ascending = rw listed (changed_ascend w t old new)
