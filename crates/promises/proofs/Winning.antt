-- Demand 3, its second half: who wins a property in a state. Assumes nothing.
-- `winner_in w t k p`: the winner of property p in state k of table t, a direct style or a rule by its number in the sheet w; `Covered` and `Reached` as in
-- Listed.antt.
use mathlib.Core.Path.{◌≡◌, ap, ap₂, ◌∙◌}
use mathlib.Core.Logic.{◌↔◌}
use mathlib.Core.Option.{Option, none, some}
use mathlib.Core.List.{List, map}
use Prim.Native.Nat.{ℕ, ◌≤◌}
use native.Mathlib.Omega.{arith}
use lib.ListN.{length, get_elem?}
use lib.Dec.{T}
use Rattle.theory.specs.States.{State}
use Rattle.theory.specs.Cascade.{Wins}
use Rattle.theory.proofs.Winners.{winner_wins, winner_none}
use Rattle.selector.specs.Tags.{Tags}
use Rattle.typed.specs.declared.SelectorInputs.{SelectorInputs}
use Rattle.typed.specs.Typed.{inputs_tags}
use Rattle.table.specs.Tables.{Table, ranking_in}
use Rattle.table.specs.Entering.{built}
use Rattle.winners.specs.Winners.{Place, key_at, holds_at, places_for, winner_of, entry_of}
use Rattle.looking.specs.Calls.{rules_at, winner_in, entry_in}
use Rattle.covered.specs.Covered.{Builds, Covered, Reached, After}
use Rattle.covered.specs.Covered.Covered.{built as is-built}
use Rattle.covered.specs.Covered.After.{none as no_more}
use Rattle.covered.specs.Rooms.{Roomy, table_along, number_along}
use Rattle.covered.proofs.Accepted.{build_accepted}
use Rattle.covered.proofs.Growing.{built_word}
use Rattle.covered.proofs.Promises as Left
use Rattle.covered.proofs.Reached.{covered_sound, reached_covered}
use Rattle.promises.specs.Paths.{rules_on}
use Rattle.promises.proofs.Along.{along_after}
use Rattle.promises.proofs.Listed.{listed_is, same_path_same_lists, fresh_builds, fresh_enters, fresh_same_rules}

module _ (w : List ℕ) where
  -- ---- the table's ranking picks the weight: it is the one that the table was last built with,

  pub built_ranking : (t : Table) (stamp ranking : ℕ) → Builds w ranking t → ranking_in (built w stamp ranking t).head ≡ ranking
  built_ranking t stamp ranking (e, v) =
      let a = build_accepted w ranking t.states t.cursors v in
      built_word w t stamp ranking a.shape e a.ranks a.rows a.room 1 (omega arith)

  -- and enterings keep it
  pub ranking_kept : {t t' : Table} → Covered w t → After w t t' → ranking_in t'.head ≡ ranking_in t.head
  ranking_kept = Left.ranking_kept w

  -- ---- "The greatest key among direct styles and listed rules that hold the property wins"; 01's "Order": "the first of equal sources (direct before rules)"

  module _ (t : Table) (k p : ℕ) where
    pub winner_exactly : (s : Place) → (winner_in w t k p ≡ some s) ↔ Wins (key_at w (ranking_in t.head)) (holds_at w) (places_for w (rules_at t k)) p s
    winner_exactly s = winner_wins (key_at w (ranking_in t.head)) (holds_at w) (places_for w (rules_at t k)) p s

    -- there is none exactly if nobody among them holds the property
    pub no_winner_exactly : (winner_in w t k p ≡ none) ↔ ((j : ℕ) (s : Place) → get_elem? (places_for w (rules_at t k)) j ≡ some s → T (holds_at w s p) → ⊥)
    no_winner_exactly = winner_none (key_at w (ranking_in t.head)) (holds_at w) (places_for w (rules_at t k)) p

module _ {w : List ℕ} where
  -- ---- winners depend on the sheet, the ranking and the path alone

  pub winner_of_path : {t : Table} {k stamp : ℕ} {path : List Tags} → Reached w t k stamp path → (p : ℕ)
      → winner_in w t k p ≡ winner_of w (ranking_in t.head) (rules_on w path) p
  winner_of_path {t = t} r p = ap (λ (rules : List ℕ). winner_of w (ranking_in t.head) rules p) (listed_is r)

  -- in two tables of one ranking, whatever stamp, rooms, other calls and numbers
  module _ {t t' : Table} {k k' stamp stamp' : ℕ} {path : List Tags} (r : Reached w t k stamp path) (r' : Reached w t' k' stamp' path)
      (ranks : ranking_in t.head ≡ ranking_in t'.head) (p : ℕ) where
    pub same_path_same_winner : winner_in w t k p ≡ winner_in w t' k' p
    same_path_same_winner =
        ap₂ (λ (ranking : ℕ) (rules : List ℕ). winner_of w ranking rules p) ranks (ap (λ (z : State). z.matched) (same_path_same_lists r r'))

    pub same_path_same_entry : entry_in w t k p ≡ entry_in w t' k' p
    same_path_same_entry = ap (λ (s : Option Place). entry_of w s p) same_path_same_winner

  -- ---- "a fresh table gives that path the same .. winners whatever the numbers": one of the same sheet and ranking, with room

  -- build and the enterings are accepted: `fresh_builds`, `fresh_enters`
  module _ (xs : List SelectorInputs) {t : Table} {number stamp : ℕ} (r : Reached w t number stamp (map inputs_tags xs)) (fresh : Table)
      (eight : length fresh.head ≡ 8) (room : Roomy w (map inputs_tags xs) fresh) (stamp' : ℕ) where
    -- a table's ranking is one that build accepts
    ranking_ranks : ranking_in t.head ≤ 1
    ranking_ranks = (covered_sound w (reached_covered w r)).ranking

    abbrev again : Table
    again = built w stamp' (ranking_in t.head) fresh

    fresh_ranking : ranking_in (table_along w again 0 xs).head ≡ ranking_in t.head
    fresh_ranking =
        let b = fresh_builds xs r fresh eight room (ranking_in t.head) ranking_ranks stamp' in
        ranking_kept w (is-built fresh stamp' (ranking_in t.head) b)
        (along_after xs 0 stamp' no_more (fresh_enters xs r fresh eight room (ranking_in t.head) ranking_ranks stamp'))
        ∙ built_ranking w fresh stamp' (ranking_in t.head) b

    pub fresh_same_winners : (p : ℕ)
        → winner_in w (table_along w (built w stamp' (ranking_in t.head) fresh) 0 xs) (number_along w (built w stamp' (ranking_in t.head) fresh) 0 xs) p ≡ winner_in w t number p
    fresh_same_winners p =
        ap₂ (λ (ranking : ℕ) (rules : List ℕ). winner_of w ranking rules p) fresh_ranking
        (ap (λ (z : State). z.matched) (fresh_same_rules xs r fresh eight room (ranking_in t.head) ranking_ranks stamp'))

    pub fresh_same_entries : (p : ℕ)
        → entry_in w (table_along w (built w stamp' (ranking_in t.head) fresh) 0 xs) (number_along w (built w stamp' (ranking_in t.head) fresh) 0 xs) p ≡ entry_in w t number p
    fresh_same_entries p = ap (λ (s : Option Place). entry_of w s p) (fresh_same_winners p)
