-- 01's `walk` example as an instance of the theorem on lists, whatever the table. Assumes nothing.
use mathlib.Core.Path.{◌≡◌, refl, sym, ap, ◌∙◌}
use mathlib.Core.List.{List, [], ◌∷◌, flat_map}
use mathlib.Core.Logic.{◌≢◌}
use Prim.Native.Nat.{ℕ, ◌+◌, ◌*◌}
use native.Mathlib.Omega.{arith}
use lib.ListN.{length}
use Rattle.theory.specs.Lists.{contained, inserted, sort, select}
use Rattle.theory.specs.States.{Sheet, State, rule, enter, run}
use Rattle.theory.specs.Tails.{fits_tail}
use Rattle.selector.specs.Tags.{Tags, tag_ok, step_matches}
use Rattle.table.specs.Tables.{Table, selectors_of, state_at}
use Rattle.table.proofs.Selectors.{length_selectors}
use Rattle.covered.specs.Covered.{Reached}
use Rattle.covered.proofs.Reached.{reached_covered, reached_is}
use Rattle.promises.specs.Walk.{typed, walk, after}
use Rattle.promises.proofs.Listed.{listed_is, equal_lists_one_state}

-- the rules that a path has in a sheet of these selectors
abbrev pub rules_on : Sheet Tags → List Tags → List ℕ
rules_on sheet path = select (λ k. fits_tail step_matches (rule sheet k) path) (length sheet)

pub lists : (sheet : Sheet Tags) {w : List ℕ} → selectors_of w ≡ sheet → {t : Table} {number stamp : ℕ} {path : List Tags} → Reached w t number stamp path
    → (state_at t number).matched ≡ rules_on sheet path
lists sheet {w} e {path = path} r = listed_is r ∙ ap (select (λ k. fits_tail step_matches (rule (selectors_of w) k) path)) (sym (length_selectors w)) ∙ ap (λ (s : Sheet Tags). rules_on s path) e

-- ---- which rules are listed

module _ {w : List ℕ} (e : selectors_of w ≡ walk) {t : Table} where
  -- the root
  pub walk_root : {number stamp : ℕ} → Reached w t number stamp [] → (state_at t number).matched ≡ []
  unfolding select
  walk_root r = lists walk e r

  -- "type 1 into 0": "state 1 matched 0:"
  pub walk_1 : {number stamp : ℕ} → Reached w t number stamp (typed 1 ∷ []) → (state_at t number).matched ≡ []
  unfolding select step_matches tag_ok contained
  walk_1 r = lists walk e r

  -- "type 9 into 1": "state 1 matched 0:"
  pub walk_1_9 : {number stamp : ℕ} → Reached w t number stamp (typed 1 ∷ typed 9 ∷ []) → (state_at t number).matched ≡ []
  unfolding select step_matches tag_ok contained
  walk_1_9 r = lists walk e r

  -- "type 5 into 1": "state 2 matched 2: 0 1"
  pub walk_1_5 : {number stamp : ℕ} → Reached w t number stamp (typed 1 ∷ typed 5 ∷ []) → (state_at t number).matched ≡ 0 ∷ 1 ∷ []
  unfolding select step_matches tag_ok contained
  walk_1_5 r = lists walk e r

  -- "type 5 into 0": "state 3 matched 1: 0"
  pub walk_5 : {number stamp : ℕ} → Reached w t number stamp (typed 5 ∷ []) → (state_at t number).matched ≡ 0 ∷ []
  unfolding select step_matches tag_ok contained
  walk_5 r = lists walk e r

-- ---- which of these states are one

pub after_none : after [] ≡ record { cursors = 0 ∷ 8 ∷ []; matched = [] }
unfolding run
after_none = refl

pub after_1 : after (typed 1 ∷ []) ≡ record { cursors = 9 ∷ []; matched = [] }
unfolding run enter flat_map sort inserted step_matches tag_ok contained
after_1 = refl

pub after_1_9 : after (typed 1 ∷ typed 9 ∷ []) ≡ record { cursors = 9 ∷ []; matched = [] }
unfolding run enter flat_map sort inserted step_matches tag_ok contained
after_1_9 = refl

pub after_1_5 : after (typed 1 ∷ typed 5 ∷ []) ≡ record { cursors = 9 ∷ []; matched = 0 ∷ 1 ∷ [] }
unfolding run enter flat_map sort inserted step_matches tag_ok contained
after_1_5 = refl

pub after_5 : after (typed 5 ∷ []) ≡ record { cursors = []; matched = 0 ∷ [] }
unfolding run enter flat_map sort inserted step_matches tag_ok contained
after_5 = refl

-- a number that tells these states apart
abbrev size : State → ℕ
size s = length s.cursors + 3 * length s.matched

module _ {w : List ℕ} (e : selectors_of w ≡ walk) {t : Table} {a b stamp stamp' : ℕ} {p q : List Tags} (r : Reached w t a stamp p) (r' : Reached w t b stamp' q) where
  pub one_state : after p ≡ after q → a ≡ b
  one_state f =
      let (l, _, i) = reached_is w r in
      let (m, _, j) = reached_is w r' in
      equal_lists_one_state (reached_covered w r) a b l m (i ∙ rw e f ∙ sym j)

  pub two_states : {x y : State} → after p ≡ x → after q ≡ y → size x ≢ size y → a ≢ b
  two_states f g n z =
      let (_, _, i) = reached_is w r in
      let (_, _, j) = reached_is w r' in
      n (ap size (sym f ∙ sym (rw e at i) ∙ ap (state_at t) z ∙ rw e at j ∙ g))

module _ {w : List ℕ} (e : selectors_of w ≡ walk) {t : Table} {a b stamp stamp' : ℕ} where
  -- type 1, and type 9 under it, are one state;
  pub walk_one_state : Reached w t a stamp (typed 1 ∷ []) → Reached w t b stamp' (typed 1 ∷ typed 9 ∷ []) → a ≡ b
  walk_one_state p q = one_state e p q (after_1 ∙ sym after_1_9)

  -- type 5 under it, and type 5 under the root, are two others
  pub walk_other_state : Reached w t a stamp (typed 1 ∷ []) → Reached w t b stamp' (typed 1 ∷ typed 5 ∷ []) → a ≢ b
  walk_other_state p q = two_states e p q after_1 after_1_5 (λ z. omega arith)

  pub walk_third_state : Reached w t a stamp (typed 1 ∷ []) → Reached w t b stamp' (typed 5 ∷ []) → a ≢ b
  walk_third_state p q = two_states e p q after_1 after_5 (λ z. omega arith)

  pub walk_not_one : Reached w t a stamp (typed 1 ∷ typed 5 ∷ []) → Reached w t b stamp' (typed 5 ∷ []) → a ≢ b
  walk_not_one p q = two_states e p q after_1_5 after_5 (λ z. omega arith)
