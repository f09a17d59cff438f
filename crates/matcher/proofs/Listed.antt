-- Whether a state is one of a table, by each way through the code, and what is answered then. Assumes nothing.
use mathlib.Core.Path.{◌≡◌, refl, sym, ◌∙◌}
use mathlib.Core.Bool.{Bool, true, false, not}
use mathlib.Core.List.{List, []}
use mathlib.Core.Logic.{inl, inr}
use Prim.Native.Nat.{ℕ, ◌+◌, ◌-◌, ◌*◌, ◌≤◌}
use native.Mathlib.Omega.{arith}
use lib.ListN.{length, take, drop}
use lib.Dec.{leb, eqb}
use denote.Ref.{Bor}
use borrow.Author.Tests.{lt-ltb, le-ltb, le-leb, lt-leb, eq-eqb, ne_eqb, ltb-true, not-true, not-false}
use Rattle.theory.proofs.Lists.{le_or_lt, and_right, or_second}
use Rattle.lent.specs.Pool.{start_of, list_at}
use Rattle.std.specs.Prelude.{Ok}
use Rattle.lent.specs.Refusals.{number_of, told, answered, first_of}
use Rattle.lent.specs.declared.Refusal.{Refusal}
use Rattle.lent.proofs.Refusals.{first_clear, refusal_number, refused_first}
use Rattle.sheet.specs.Shape.{sheet_shape}
use Rattle.table.specs.Tables.{Table, stamp_in, states_in, matched_ends}
use Rattle.table.specs.Calls.{broken, not_a_state, state_verdict}
use Rattle.table.proofs.Shaped.{shaped, matched_ends_within}
use Rattle.matcher.specs.Answers.{Part, Rules}

-- ---- of this table

module _ (head : List ℕ) (number stamp a : ℕ) (e : a ≡ stamp_in head) where
  pub stamp_differs : (stamp ≡ a → ⊥) → true ≡ not_a_state head number stamp
  unfolding not_a_state
  stamp_differs h = rw (← e, ne_eqb stamp a h)

  pub stamp_same : stamp ≡ a → (n : ℕ) → n ≡ states_in head → leb n number ≡ not_a_state head number stamp
  unfolding not_a_state
  stamp_same h n f = rw (← e, eq-eqb stamp a h, ← f) (elim (le_or_lt n number) [ inl l ↦ rw (le-leb n number l, le-ltb number n l) | inr l ↦ rw (lt-leb n number l, lt-ltb number n l) ])

-- ---- the verdict

module _ (w : List ℕ) (t : Table) (number stamp : ℕ) (b : Bool) (e : b ≡ not (broken w t)) where
  pub verdict_broken : b ≡ false → 11 ≡ state_verdict w t number stamp
  unfolding state_verdict first_of
  verdict_broken f = rw (not-false (broken w t) (sym e ∙ f))

  module _ (f : b ≡ true) (a : Bool) (g : a ≡ not_a_state t.head number stamp) where
    pub verdict_foreign : a ≡ true → 4 ≡ state_verdict w t number stamp
    unfolding state_verdict first_of
    verdict_foreign h = rw (not-true (broken w t) (sym e ∙ f), ← g, h)

    pub verdict_there : a ≡ false → 0 ≡ state_verdict w t number stamp
    unfolding state_verdict first_of
    verdict_there h = rw (not-true (broken w t) (sym e ∙ f), ← g, h)

pub ruleset verdicts = (verdict_broken, verdict_foreign, verdict_there, not-true, not-false)

-- ---- the answers by it

module _ (w : List ℕ) (t : Table) (number stamp : ℕ) where
  module _ (x : Refusal) (e : number_of x ≡ state_verdict w t number stamp) where
    pub rules_none : (whole part : Bor (List ℕ)) → part.now ≡ [] → part.ref_ptr.0 ≡ whole.ref_ptr.0 → part.ref_ptr.1 ≡ whole.ref_ptr.1 + 4 * 0 → Rules w t number stamp whole part
    rules_none whole part n k l =
        let f = ne_eqb (number_of x) 0 (refusal_number x) in
        record { numbers = rw (← e, f) n; block = k; place = rw (← e, f) l }

    pub part_refused : (l : List ℕ) → told x ≡ answered (state_verdict w t number stamp) l
    unfolding state_verdict
    part_refused l = refused_first _ x l refl e

  module _ (e : 0 ≡ state_verdict w t number stamp) where
    pub part_found : (from to : ℕ) → from ≡ start_of (matched_ends t.states) number → to ≡ matched_ends t.states number → Part w t number stamp (Ok (from, to))
    part_found from to f g = record { answer = rw (← e, f, g) }

    -- an accepted state's list stands within the buffer
    module _ (from a to b : ℕ) (f : from ≡ a) (i : a ≡ start_of (matched_ends t.states) number) (g : to ≡ b) (j : b ≡ matched_ends t.states number) where
      within : (from ≤ to) × (to ≤ length t.matched)
      unfolding state_verdict broken not_a_state
      within =
          let (c, r) = first_clear 11 (broken w t) _ (omega arith) (sym e) in
          let (d, _) = first_clear 4 (not_a_state t.head number stamp) _ (omega arith) r in
          let s = shaped w t (and_right (sheet_shape w) _ (not-false _ c)) in
          let l = ltb-true number (states_in t.head) (not-false _ (or_second (not (eqb stamp (stamp_in t.head))) _ d)) in
          (omega (arith, f, i, g, j, s.matched_up number l), omega (arith, g, j, matched_ends_within s number l, s.matched_room))

      pub part_starts : from ≤ to
      part_starts = within.0

      pub part_ends : to ≤ length t.matched
      part_ends = within.1

      pub rules_found : (whole part : Bor (List ℕ)) → part.now ≡ take (to - from) (drop from t.matched) → part.ref_ptr.0 ≡ whole.ref_ptr.0 → part.ref_ptr.1 ≡ whole.ref_ptr.1 + 4 * from
          → Rules w t number stamp whole part
      unfolding list_at
      rules_found whole part n k l = record { numbers = rw (← e, ← j, ← g, ← i, ← f) n; block = k; place = rw (← e, ← i, ← f) l }
