-- What a call leaves: the invariant, the head's stamp and ranking, the lists of the states that were there, and the transitions. Assumes nothing.
use mathlib.Core.Path.{◌≡◌, refl, ◌∙◌}
use mathlib.Core.List.{List}
use Prim.Native.Nat.{ℕ, ◌+◌, ◌*◌, ◌≤◌, ◌<◌}
use native.Mathlib.Omega.{arith}
use lib.ListN.{length}
use Rattle.selector.specs.Tags.{Tags, step_matches}
use Rattle.table.specs.Tables.{Table, selectors_of, stamp_in, ranking_in, states_in, cursors_in, matched_in, transitions_in, cursor_ends, matched_ends, state_at, parent_at, subject_of}
use Rattle.covered.proofs.Known.{leads_same}
use Rattle.covered.proofs.Columns.{Stays, stays_none, stays_then, stays_list}
use Rattle.covered.proofs.Rows.{SameRow, row_then, same_parent, same_subject_lem}
use Rattle.covered.proofs.Found.{state_is}
use Rattle.covered.proofs.Sound.{LeadsIn, Sound}

-- the lists of both columns stay, and the rooms
pub record StatesStay (t t' : Table) : Type 0 where
  pub rows : length t'.states ≡ length t.states
  pub cursor_room : length t'.cursors ≡ length t.cursors
  pub matched_room : length t'.matched ≡ length t.matched
  pub more : states_in t.head ≤ states_in t'.head
  pub more_cursors : cursors_in t.head ≤ cursors_in t'.head
  pub more_matched : matched_in t.head ≤ matched_in t'.head
  pub cursors : Stays (states_in t.head) (cursors_in t.head) (cursor_ends t.states) (cursor_ends t'.states) t.cursors t'.cursors
  pub matched : Stays (states_in t.head) (matched_in t.head) (matched_ends t.states) (matched_ends t'.states) t.matched t'.matched

module _ (w : List ℕ) where
  pub record Kept (t t' : Table) : Type 0 where
    pub sound : Sound w t'
    pub stamp : stamp_in t'.head ≡ stamp_in t.head
    pub ranking : ranking_in t'.head ≡ ranking_in t.head
    pub stay : StatesStay t t'
    -- and its transitions, but for their links
    pub more_moves : transitions_in t.head ≤ transitions_in t'.head
    pub moves : (k : ℕ) → k < transitions_in t.head → SameRow t'.transitions k t.transitions k

  pub kept_none : {t : Table} → Sound w t → Kept t t
  kept_none {t} s = record {
    sound = s;
    stamp = refl;
    ranking = refl;
    stay = record {
      rows = refl;
      cursor_room = refl;
      matched_room = refl;
      more = omega arith;
      more_cursors = omega arith;
      more_matched = omega arith;
      cursors = stays_none (states_in t.head) (cursors_in t.head) (cursor_ends t.states) t.cursors;
      matched = stays_none (states_in t.head) (matched_in t.head) (matched_ends t.states) t.matched;
    };
    more_moves = omega arith;
    moves = λ k h. record { words = λ c g ne. refl };
  }

  pub kept_then : {t t' t'' : Table} → Kept t t' → Kept t' t'' → Kept t t''
  kept_then a b =
      let p = a.stay in
      let q = b.stay in
      let h = p.more in
      let i = q.more in
      let j = p.more_cursors in
      let k = q.more_cursors in
      let l = p.more_matched in
      let m = q.more_matched in
      let n = a.more_moves in
      let o = b.more_moves in
      record {
        sound = b.sound;
        stamp = b.stamp ∙ a.stamp;
        ranking = b.ranking ∙ a.ranking;
        stay = record {
          rows = q.rows ∙ p.rows;
          cursor_room = q.cursor_room ∙ p.cursor_room;
          matched_room = q.matched_room ∙ p.matched_room;
          more = omega arith;
          more_cursors = omega arith;
          more_matched = omega arith;
          cursors = stays_then h j p.cursors q.cursors;
          matched = stays_then h l p.matched q.matched;
        };
        more_moves = omega arith;
        moves = λ k i. row_then (b.moves k (omega arith)) (a.moves k i);
      }

  -- each state keeps its lists
  pub states_stay : {t t' : Table} → Sound w t → StatesStay t t' → (k : ℕ) → k < states_in t.head → state_at t' k ≡ state_at t k
  states_stay s q k h = state_is (stays_list q.cursors s.cursors k h) (stays_list q.matched s.matched k h)

  pub leads_stay : {t t' : Table} {p k : ℕ} {x : Tags} → Sound w t → StatesStay t t' → LeadsIn w t p k x → LeadsIn w t' p k x
  leads_stay s q l = leads_same step_matches (selectors_of w) q.more (states_stay s q) l

  pub leads_cast : (t : Table) {p p' k k' : ℕ} {x x' : Tags} → p' ≡ p → k' ≡ k → x' ≡ x → LeadsIn w t p k x → LeadsIn w t p' k' x'
  leads_cast t a b c l = rw (a, b, c) l

-- transition k is of the parent p and the subject x
pub record Held (t : Table) (p : ℕ) (x : Tags) (k : ℕ) : Type 0 where
  pub there : k < transitions_in t.head
  pub parent : parent_at t.transitions k ≡ p
  pub subject : subject_of t.transitions k ≡ x

pub held_stays : (w : List ℕ) {t t' : Table} {p k : ℕ} {x : Tags} → Sound w t → Kept w t t' → Held t p x k → Held t' p x k
held_stays w {t} {t'} {k = k} s q h =
    let l = h.there in
    let m = q.more_moves in
    let r = q.moves k l in
    let a : 41 * (k + 1) ≤ length t.transitions = omega (arith, s.transitions) in
    let b : 41 * (k + 1) ≤ length t'.transitions = omega (arith, q.sound.transitions) in
    record { there = omega arith; parent = same_parent r ∙ h.parent; subject = same_subject_lem r b a (s.subjects k l) ∙ h.subject }
