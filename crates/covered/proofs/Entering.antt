-- An entering that has room: what it leaves, and that its answer is the child of the subject under the parent. Assumes nothing.
use mathlib.Core.Path.{◌≡◌, refl, sym, ◌∙◌, subst}
use mathlib.Core.Bool.{Bool, true, false, cond, and-false}
use mathlib.Core.List.{List, [], ◌∷◌}
use mathlib.Core.Logic.{◌⊎◌, inl, inr, ◌≢◌}
use Prim.Native.Nat.{ℕ, ◌+◌, ◌-◌, ◌<◌}
use native.Mathlib.Omega.{arith}
use lib.Dec.{ltb, eqb}
use lib.ListN.{length}
use borrow.Author.Tests.{lt-ltb, le-ltb, eq-eqb, ne_eqb, eqb-true, eqb-false, not-false}
use Rattle.theory.specs.States.{State}
use Rattle.theory.proofs.Lists.{and_left, and_right, and_both}
use Rattle.lent.proofs.Placing.{sets_after}
use Rattle.selector.specs.Tags.{Tags}
use Rattle.selector.specs.Rows.{row_at}
use Rattle.table.specs.Tables.{Table, states_in, cursors_in, matched_in, transitions_in, state_at, first_link, next_link, parent_at, child_at}
use Rattle.table.specs.Entering.{transition_fits, leads, is_hit, cached, next_state, cached_in, number_in, room_in, grown, holding, kept, lacks_room, child_of, entered}
use Rattle.table.proofs.Subjects.{same_subject_is}
use Rattle.table.proofs.Chains.{leads_some, leads_below, cached_hit}
use Rattle.table.proofs.Rooms.{room_for_lem}
use Rattle.covered.proofs.Chained.{On, on_some, on_found}
use Rattle.covered.proofs.Rows.{Fine}
use Rattle.covered.proofs.Found.{number_is}
use Rattle.covered.proofs.Sound.{LeadsIn, Sound}
use Rattle.covered.proofs.Keeps.{Kept, Held, kept_none, kept_then, states_stay, leads_stay, leads_cast}
use Rattle.covered.proofs.Growing.{grown_count, grown_stay, grown_new, grown_kept}
use Rattle.covered.proofs.Hooking.{row_kept, row_held}

-- the table is kept, and k is the child's number
pub record Right (w : List ℕ) (t : Table) (p : ℕ) (x : Tags) (t' : Table) (k : ℕ) : Type 0 where
  pub kept : Kept w t t'
  pub leads : LeadsIn w t' p k x
  -- there is one state more only if none of those there is the child
  pub grows : (states_in t'.head ≡ states_in t.head) ⊎ ((states_in t'.head ≡ states_in t.head + 1) × ((i : ℕ) → i < states_in t.head → state_at t i ≡ next_state w t p x → ⊥))

module _ (w : List ℕ) {t : Table} (s : Sound w t) (p : ℕ) (l : p < states_in t.head) where
  module _ (x : Tags) where
    abbrev next : State
    next = next_state w t p x

    -- a transition that is found is there,
    cached_held : (k : ℕ) → cached_in t p x ≡ k → k ≢ 0 → Held t p x (k - 1)
    unfolding cached is_hit
    cached_held k e ne =
        let n = transitions_in t.head in
        let (a, b) = cached_hit t.transitions n p x (first_link t.states p) n k e ne in
        let parent = eqb (parent_at t.transitions (k - 1)) p in
        record {
          there = omega (arith, leads_some n k (leads n k) refl a, leads_below n k (leads n k) refl a);
          parent = eqb-true _ p (and_left parent _ b);
          subject = (same_subject_is _ x).0 (and_right parent _ b);
        }

    cached_leads : (k : ℕ) → cached_in t p x ≡ k → k ≢ 0 → LeadsIn w t p (child_at t.transitions (k - 1)) x
    cached_leads k e ne = let h = cached_held k e ne in leads_cast w t (sym h.parent) refl (sym h.subject) (s.moves (k - 1) h.there)

    -- and one that is there is found
    pub held_cached : (k : ℕ) → Held t p x k → cached_in t p x ≢ 0
    unfolding cached is_hit
    held_cached k h =
        let on = subst (λ (q : ℕ). On (next_link t.transitions) k (first_link t.states q)) h.parent (s.chains.on k h.there) in
        on_found t.transitions (transitions_in t.head) s.chains.rises p x k (first_link t.states p) (transitions_in t.head)
        (and_both _ _ (eq-eqb _ p h.parent) ((same_subject_is _ x).1 h.subject)) on (s.chains.starts p l) (omega (arith, on_some on))

    -- a state that is found or put after the others
    holding_right : (ltb (number_in t next) (states_in t.head) ≡ false → room_in t next ≡ true) → Right w t p x (holding t next) (number_in t next)
    unfolding holding
    holding_right room = elim (number_is t next) [
      | inl (b, e) ↦ rw (lt-ltb (number_in t next) (states_in t.head) b) (record { kept = kept_none w s; leads = record { parent = l; child = b; enters = e }; grows = inl refl })
      | inr (q, none) ↦
          let z = le-ltb (number_in t next) (states_in t.head) (omega arith) in
          let r = room_for_lem t.head _ _ _ next (room z) in
          let g = grown_kept w t next s r p x l refl none in
          rw (z, q) (record {
            kept = g;
            leads = record {
              parent = omega (arith, grown_count w t next s r);
              child = omega (arith, grown_count w t next s r);
              enters = grown_new w t next s r ∙ rw (states_stay w s (grown_stay w t next s r) p l);
            };
            grows = inr (grown_count w t next s r, none);
          })
    ]

    -- the transitions are as before
    holding_moves : (transitions_in (holding t next).head ≡ transitions_in t.head) × ((holding t next).transitions ≡ t.transitions)
    unfolding holding grown
    holding_moves = by (ltb (number_in t next) (states_in t.head))
      where
        by : (b : Bool) → (transitions_in (cond b t (grown t next)).head ≡ transitions_in t.head) × ((cond b t (grown t next)).transitions ≡ t.transitions)
        by true = (refl, refl)
        by false = (sets_after t.head 2 ((states_in t.head + 1) ∷ (cursors_in t.head + length next.cursors) ∷ (matched_in t.head + length next.matched) ∷ []) 5 (omega arith), refl)

    -- a state that is there has this number, and no other
    found_child : (k : ℕ) → k < states_in t.head → state_at t k ≡ next → number_in t next ≡ k
    found_child k h e = elim (number_is t next) [
      | inl (b, q) ↦ s.known.distinct (number_in t next) k b h (q ∙ sym e)
      | inr (q, none) ↦ absurd (none k h e)
    ]

  module _ (row : List ℕ) where
    abbrev link : ℕ
    link = cached_in t p (row_at 16 row 0)

    pub enter_right : Fine row → lacks_room w t p row ≡ false → Right w t p (row_at 16 row 0) (entered w t p row) (child_of w t p row)
    unfolding entered child_of lacks_room
    enter_right f r = by (eqb link 0) refl
      where
        x : Tags
        x = row_at 16 row 0

        by : (b : Bool) → eqb link 0 ≡ b → Right w t p x (cond b (kept (holding t (next x)) p (number_in t (next x)) row) t) (cond b (number_in t (next x)) (child_at t.transitions (link - 1)))
        by true e =
            let h = holding_right x (λ z. not-false (room_in t (next x)) (rw (e, z) at r)) in
            let (k, q) = row_kept w p (number_in t (next x)) row h.kept.sound f h.leads in
            record { kept = kept_then w h.kept k; leads = leads_stay w h.kept.sound k.stay h.leads; grows = rw q h.grows }
        by false e = record { kept = kept_none w s; leads = cached_leads x link refl (eqb-false link 0 e); grows = inl refl }

    -- with room for a transition, or with the transition there, it is held afterwards
    pub enter_holds : Fine row → lacks_room w t p row ≡ false → transition_fits (transitions_in t.head) (length t.transitions) ≡ true → (k : ℕ) × Held (entered w t p row) p (row_at 16 row 0) k
    unfolding entered lacks_room
    enter_holds f r fits = by (eqb link 0) refl
      where
        x : Tags
        x = row_at 16 row 0

        by : (b : Bool) → eqb link 0 ≡ b → (k : ℕ) × Held (cond b (kept (holding t (next x)) p (number_in t (next x)) row) t) p x k
        by true e =
            let h = holding_right x (λ z. not-false (room_in t (next x)) (rw (e, z) at r)) in
            (transitions_in (holding t (next x)).head, row_held w p (number_in t (next x)) row h.kept.sound f h.leads (let (a, b) = holding_moves x in rw (a, b) fits))
        by false e = (link - 1, cached_held x link refl (eqb-false link 0 e))

    -- and while it is held, entering changes no word
    pub entered_again : (k : ℕ) → Held t p (row_at 16 row 0) k → entered w t p row ≡ t
    unfolding entered
    entered_again k h = rw (ne_eqb link 0 (held_cached (row_at 16 row 0) k h))

    -- where the child is there, entering finds it
    module _ (k : ℕ) (h : k < states_in t.head) (e : state_at t k ≡ next_state w t p (row_at 16 row 0)) where
      pub child_there : child_of w t p row ≡ k
      unfolding child_of
      child_there = by (eqb link 0) refl
        where
          by : (b : Bool) → eqb link 0 ≡ b → cond b (number_in t (next (row_at 16 row 0))) (child_at t.transitions (link - 1)) ≡ k
          by true q = found_child (row_at 16 row 0) k h e
          by false q =
              let c = cached_leads (row_at 16 row 0) link refl (eqb-false link 0 q) in
              s.known.distinct (child_at t.transitions (link - 1)) k c.child h (c.enters ∙ sym e)

      -- and lacks no room
      pub child_has_room : lacks_room w t p row ≡ false
      unfolding lacks_room
      child_has_room = rw (found_child (row_at 16 row 0) k h e, lt-ltb k (states_in t.head) h) (and-false (eqb link 0))
