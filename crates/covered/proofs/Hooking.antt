-- A transition more, if there is room for it. Assumes nothing.
use mathlib.Core.Path.{◌≡◌, refl, ap, ◌∙◌}
use mathlib.Core.Bool.{Bool, true, false, cond}
use mathlib.Core.List.{List, ◌∷◌}
use mathlib.Core.Logic.{◌⊎◌, inl, inr, ◌≢◌}
use Prim.Native.Nat.{ℕ, ◌+◌, ◌-◌, ◌*◌, ◌≤◌, ◌<◌}
use native.Mathlib.Omega.{arith}
use native.Mathlib.Decide.{ℕ_discrete}
use lib.ListN.{length, get_or, set, length-set}
use lib.Seq.{length-sets, get_or-set_same, get_or-set_other}
use lib.Dec.{ltb}
use borrow.Author.Tests.{leb-true}
use Rattle.theory.proofs.Lists.{and_right}
use Rattle.lent.specs.Pool.{address_of, ends_in}
use Rattle.selector.specs.Tags.{step_matches}
use Rattle.selector.specs.Rows.{row_at}
use Rattle.table.specs.Tables.{Table, selectors_of, states_in, transitions_in, first_link, parent_at, child_at, next_link, subject_of}
use Rattle.table.specs.Entering.{transition_fits, leads, last_from, with_row, linked_state, linked_last, hooked, kept}
use Rattle.table.proofs.Chains.{leads_some}
use Rattle.table.proofs.Shaped.{SubjectShaped}
use Rattle.covered.proofs.Known.{below, known_same}
use Rattle.covered.proofs.Chained.{On, here, Onward, Chained, on_then, on_more, chained_more, leads_not, Last, last_is}
use Rattle.covered.proofs.Columns.{stays_end_to_end}
use Rattle.covered.proofs.Rows.{row_before, row_new, SameRow, row_then, same_parent, same_child, same_subject_lem, same_shaped, link_set, Fine, whole_parent, whole_child, whole_subject, whole_shaped}
use Rattle.covered.proofs.Sound.{LeadsIn, Sound}
use Rattle.covered.proofs.Keeps.{StatesStay, Kept, Held, kept_none, states_stay, leads_stay, leads_cast}

-- one transition more, and links set: no list of a state changes, and no earlier row but for its link
record Hooked (t t' : Table) (row : List ℕ) : Type 0 where
  head : t'.head ≡ set t.head 5 (transitions_in t.head + 1)
  cursors : t'.cursors ≡ t.cursors
  matched : t'.matched ≡ t.matched
  rows : length t'.states ≡ length t.states
  ends : (c : ℕ) → c < 2 → (k : ℕ) → ends_in t'.states c 3 k ≡ ends_in t.states c 3 k
  long : length t'.transitions ≡ length t.transitions
  before : (k : ℕ) → k < transitions_in t.head → SameRow t'.transitions k t.transitions k
  new : SameRow t'.transitions (transitions_in t.head) row 0
  chains : Chained (states_in t.head) (transitions_in t.head + 1) (first_link t'.states) (next_link t'.transitions) (parent_at t'.transitions)

module _ (w : List ℕ) (t : Table) (p child : ℕ) (row : List ℕ) (s : Sound w t) (parent : p < states_in t.head) (long : length row ≡ 38)
    (room : 41 * transitions_in t.head + 41 ≤ length t.transitions) where
  abbrev rows : List ℕ
  rows = with_row t.transitions (transitions_in t.head) p child row

  rows_before : (k : ℕ) → k < transitions_in t.head → SameRow rows k t.transitions k
  rows_before k h = record { words = λ c g ne. row_before 41 (transitions_in t.head) t.transitions (p ∷ child ∷ 0 ∷ row) c g k h }

  rows_new : SameRow rows (transitions_in t.head) (p ∷ child ∷ 0 ∷ row) 0
  unfolding ends_in
  rows_new = record {
    words = λ c g ne. let z : c + 41 * 0 ≡ c = omega arith in
        rw z (row_new 41 (transitions_in t.head) t.transitions (p ∷ child ∷ 0 ∷ row) c (omega arith) (omega arith));
  }

  -- ---- the chains

  abbrev count : ℕ
  count = transitions_in t.head

  abbrev next : ℕ → ℕ
  next = next_link t.transitions

  next_before : (k : ℕ) → k < count → next_link rows k ≡ next k
  next_before k h = row_before 41 count t.transitions (p ∷ child ∷ 0 ∷ row) 2 (omega arith) k h

  next_new : next_link rows count ≡ 0
  next_new = row_new 41 count t.transitions (p ∷ child ∷ 0 ∷ row) 2 (omega arith) (omega arith)

  parents : (k : ℕ) → k < count → parent_at t.transitions k < states_in t.head
  parents k h = (s.moves k h).parent

  new_parent : {rows' : List ℕ} → SameRow rows' count (p ∷ child ∷ 0 ∷ row) 0 → parent_at rows' count ≡ p
  new_parent r = same_parent r ∙ whole_parent p child row

  -- hooked to the state
  module _ (e : leads count (first_link t.states p) ≡ false) where
    first_here : first_link (linked_state t.states p count) p ≡ count + 1
    unfolding ends_in
    first_here = get_or-set_same t.states (address_of 2 3 p) (count + 1) 0 (omega (arith, s.rows))

    first_other : (q : ℕ) → q ≢ p → first_link (linked_state t.states p count) q ≡ first_link t.states q
    unfolding ends_in
    first_other q ne = get_or-set_other t.states (address_of 2 3 p) (address_of 2 3 q) (count + 1) 0 (λ z. ne (omega arith))

    state_chains : Chained (states_in t.head) (count + 1) (first_link (linked_state t.states p count)) (next_link rows) (parent_at rows)
    state_chains = chained_more s.chains parents
        (λ q h. elim (ℕ_discrete q p) [ yes z ↦ inl (rw z (leads_not count (first_link t.states p) (s.chains.starts p parent) e)) | no z ↦ inr (first_other q z) ])
        (λ q h. elim (ℕ_discrete q p) [ yes z ↦ omega (arith, ap (first_link (linked_state t.states p count)) z, first_here) | no z ↦ omega (arith, first_other q z, s.chains.starts q h) ])
        (λ k h. inr (next_before k h))
        (λ k h. elim (below k count h) [
          | inl l ↦ elim (s.chains.rises k l) [ inl z ↦ inl (next_before k l ∙ z) | inr r ↦ inr (omega (arith, next_before k l, r.0), omega (arith, next_before k l, r.1)) ]
          | inr z ↦ inl (rw z next_new)
        ])
        (λ k h. same_parent (rows_before k h))
        (rw (new_parent rows_new) (here first_here))

  -- hooked to the last of the chain
  module _ (e : leads count (first_link t.states p) ≡ true) where
    abbrev end : ℕ
    end = last_from t.transitions count (first_link t.states p) (count - 1)

    abbrev linked : List ℕ
    linked = linked_last rows end count

    end_is : Last t.transitions count s.chains.rises (first_link t.states p) end
    end_is = let g = leads_some count (first_link t.states p) (leads count (first_link t.states p)) refl e in last_is t.transitions count s.chains.rises (first_link t.states p) (count - 1) e (omega arith)

    next_here : next_link linked (end - 1) ≡ count + 1
    unfolding ends_in
    next_here = get_or-set_same rows (address_of 2 41 (end - 1)) (count + 1) 0 (omega (arith, end_is.some, end_is.within, length-sets t.transitions (41 * count) (p ∷ child ∷ 0 ∷ row)))

    next_other : (k : ℕ) → k ≢ end - 1 → next_link linked k ≡ next_link rows k
    unfolding ends_in
    next_other k ne = get_or-set_other rows (address_of 2 41 (end - 1)) (address_of 2 41 k) (count + 1) 0 (λ z. ne (omega arith))

    next_old : (k : ℕ) → k < count → (next k ≡ 0) ⊎ (next_link linked k ≡ next k)
    next_old k h = elim (ℕ_discrete k (end - 1)) [ yes z ↦ inl (rw z end_is.ends) | no z ↦ inr (next_other k z ∙ next_before k h) ]

    next_rises : Onward (count + 1) (next_link linked)
    next_rises k h = elim (ℕ_discrete k (end - 1)) [
      | yes z ↦ let q = ap (next_link linked) z ∙ next_here in inr (omega (arith, q, end_is.some, end_is.within), omega (arith, q))
      | no z ↦ elim (below k count h) [
        | inl l ↦ elim (s.chains.rises k l) [
          | inl q ↦ inl (next_other k z ∙ next_before k l ∙ q)
          | inr r ↦ inr (omega (arith, next_other k z, next_before k l, r.0), omega (arith, next_other k z, next_before k l, r.1))
        ]
        | inr q ↦ inl (next_other k z ∙ rw q next_new)
      ]
    ]

    linked_new : SameRow linked count (p ∷ child ∷ 0 ∷ row) 0
    linked_new = row_then (link_set rows (end - 1) (count + 1) count) rows_new

    linked_before : (k : ℕ) → k < count → SameRow linked k t.transitions k
    linked_before k h = row_then (link_set rows (end - 1) (count + 1) k) (rows_before k h)

    -- the chain goes on to it
    comes : On (next_link linked) count (first_link t.states p)
    comes = on_then (on_more s.chains.rises next_old (s.chains.starts p parent) end_is.comes) (here next_here)

    last_chains : Chained (states_in t.head) (count + 1) (first_link t.states) (next_link linked) (parent_at linked)
    last_chains = chained_more s.chains parents (λ q h. inr refl) (λ q h. omega (arith, s.chains.starts q h)) next_old next_rises
        (λ k h. same_parent (linked_before k h))
        (rw (new_parent linked_new) comes)

  hooked_is : Hooked t (hooked t p child row) (p ∷ child ∷ 0 ∷ row)
  unfolding hooked ends_in
  hooked_is = by (leads n first) refl
    where
      n : ℕ
      n = transitions_in t.head

      first : ℕ
      first = first_link t.states p

      by : (b : Bool) → leads n first ≡ b → Hooked t (cond b
          (record { head = set t.head 5 (n + 1); states = t.states; cursors = t.cursors; matched = t.matched; transitions = linked_last rows (last_from t.transitions n first (n - 1)) n })
          (record { head = set t.head 5 (n + 1); states = linked_state t.states p n; cursors = t.cursors; matched = t.matched; transitions = rows }))
          (p ∷ child ∷ 0 ∷ row)
      by true e = record {
        head = refl;
        cursors = refl;
        matched = refl;
        rows = refl;
        ends = λ c h k. refl;
        long = length-set rows (address_of 2 41 (last_from t.transitions n first (n - 1) - 1)) (n + 1) ∙ length-sets t.transitions (41 * n) (p ∷ child ∷ 0 ∷ row);
        before = linked_before e;
        new = linked_new e;
        chains = last_chains e;
      }
      by false e = record {
        head = refl;
        cursors = refl;
        matched = refl;
        rows = length-set t.states (address_of 2 3 p) (n + 1);
        ends = λ c h k. get_or-set_other t.states (address_of 2 3 p) (address_of c 3 k) (n + 1) 0 (λ e. omega arith);
        long = length-sets t.transitions (41 * n) (p ∷ child ∷ 0 ∷ row);
        before = rows_before;
        new = rows_new;
        chains = state_chains e;
      }

module _ (w : List ℕ) {t t' : Table} (p child : ℕ) (row : List ℕ) (s : Sound w t) (h : Hooked t t' (p ∷ child ∷ 0 ∷ row))
    (room : 41 * transitions_in t.head + 41 ≤ length t.transitions) (f : Fine row) (l : LeadsIn w t p child (row_at 16 row 0)) where
  head_kept : (i : ℕ) → i < 5 → get_or t'.head i 0 ≡ get_or t.head i 0
  head_kept i g = rw h.head (get_or-set_other t.head 5 i (transitions_in t.head + 1) 0 (λ e. omega arith))

  head_rows : transitions_in t'.head ≡ transitions_in t.head + 1
  head_rows = rw h.head (get_or-set_same t.head 5 (transitions_in t.head + 1) 0 (omega (arith, s.eight)))

  hooked_stay : StatesStay t t'
  hooked_stay = record {
    rows = h.rows;
    cursor_room = rw h.cursors;
    matched_room = rw h.matched;
    more = rw (head_kept 2 (omega arith)) (omega arith);
    more_cursors = rw (head_kept 3 (omega arith)) (omega arith);
    more_matched = rw (head_kept 4 (omega arith)) (omega arith);
    cursors = record { same = λ k g. h.ends 0 (omega arith) k; numbers = rw h.cursors };
    matched = record { same = λ k g. h.ends 1 (omega arith) k; numbers = rw h.matched };
  }

  moved : (k : ℕ) → k < transitions_in t'.head → LeadsIn w t' (parent_at t'.transitions k) (child_at t'.transitions k) (subject_of t'.transitions k) × SubjectShaped t'.transitions k
  moved k g = elim (below k (transitions_in t.head) (omega (arith, head_rows))) [
    | inl m ↦
        let r = h.before k m in
        let a : 41 * (k + 1) ≤ length t.transitions = omega arith in
        let b : 41 * (k + 1) ≤ length t'.transitions = omega (arith, h.long) in
        let u = s.subjects k m in
        (leads_cast w t' (same_parent r) (same_child r) (same_subject_lem r b a u) (leads_stay w s hooked_stay (s.moves k m)), same_shaped r b a u)
    | inr q ↦
        let r = h.new in
        let a : 41 * (0 + 1) ≤ length (p ∷ child ∷ 0 ∷ row) = omega (arith, f.long) in
        let b : 41 * (transitions_in t.head + 1) ≤ length t'.transitions = omega (arith, h.long) in
        let u = whole_shaped p child row f in
        rw q (leads_cast w t' (same_parent r ∙ whole_parent p child row) (same_child r ∙ whole_child p child row) (same_subject_lem r b a u ∙ whole_subject p child row) (leads_stay w s hooked_stay l), same_shaped r b a u)
  ]

  hooked_kept : Kept w t t'
  hooked_kept =
      let e1 = head_kept 1 (omega arith) in
      let e2 = head_kept 2 (omega arith) in
      let e3 = head_kept 3 (omega arith) in
      let e4 = head_kept 4 (omega arith) in
      record {
        stamp = head_kept 0 (omega arith);
        ranking = e1;
        stay = hooked_stay;
        sound = record {
          sheet = s.sheet;
          eight = rw (h.head, length-set) s.eight;
          few = rw e2 s.few;
          ranking = rw e1 s.ranking;
          rows = rw (e2, h.rows) s.rows;
          cursors = rw (e2, e3) (stays_end_to_end hooked_stay.cursors s.cursors (rw h.cursors));
          matched = rw (e2, e4) (stays_end_to_end hooked_stay.matched s.matched (rw h.matched));
          transitions = rw (head_rows, h.long) (omega arith);
          known = rw e2 (known_same step_matches (selectors_of w) s.known (states_stay w s hooked_stay));
          moves = λ k g. (moved k g).0;
          subjects = λ k g. (moved k g).1;
          chains = rw (e2, head_rows) h.chains;
        };
        more_moves = rw head_rows (omega arith);
        moves = h.before;
      }

fits_room : (n room : ℕ) → transition_fits n room ≡ true → 41 * n + 41 ≤ room
unfolding transition_fits
fits_room n room e = omega (arith, leb-true (41 * (n + 1)) room (and_right (ltb n 4294967295) _ e))

-- with room or without; the states are as many
pub row_kept : (w : List ℕ) {t : Table} (p child : ℕ) (row : List ℕ) → Sound w t → Fine row → LeadsIn w t p child (row_at 16 row 0)
    → Kept w t (kept t p child row) × (states_in (kept t p child row).head ≡ states_in t.head)
unfolding kept
row_kept w {t} p child row s f l = by (transition_fits (transitions_in t.head) (length t.transitions)) refl
  where
    by : (b : Bool) → transition_fits (transitions_in t.head) (length t.transitions) ≡ b
        → Kept w t (cond b (hooked t p child row) t) × (states_in (cond b (hooked t p child row) t).head ≡ states_in t.head)
    by false e = (kept_none w s, refl)
    by true e =
        let room = fits_room (transitions_in t.head) (length t.transitions) e in
        let h = hooked_is w t p child row s l.parent f.long room in
        (hooked_kept w p child row s h room f l, head_kept w p child row s h room f l 2 (omega arith))

-- with room it is held
pub row_held : (w : List ℕ) {t : Table} (p child : ℕ) (row : List ℕ) → Sound w t → Fine row → LeadsIn w t p child (row_at 16 row 0)
    → transition_fits (transitions_in t.head) (length t.transitions) ≡ true → Held (kept t p child row) p (row_at 16 row 0) (transitions_in t.head)
unfolding kept
row_held w {t} p child row s f l e =
    let room = fits_room (transitions_in t.head) (length t.transitions) e in
    let h = hooked_is w t p child row s l.parent f.long room in
    let r = h.new in
    let a : 41 * (0 + 1) ≤ length (p ∷ child ∷ 0 ∷ row) = omega (arith, f.long) in
    let b : 41 * (transitions_in t.head + 1) ≤ length (hooked t p child row).transitions = omega (arith, h.long) in
    rw e (record {
      there = omega (arith, head_rows w p child row s h room f l);
      parent = same_parent r ∙ whole_parent p child row;
      subject = same_subject_lem r b a (whole_shaped p child row f) ∙ whole_subject p child row;
    })
