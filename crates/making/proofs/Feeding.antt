-- The records of a piece, one after the other. Assumes nothing.
use mathlib.Core.Path.{◌≡◌, refl, sym, ap, ap₂, ◌∙◌, subst}
use mathlib.Core.Bool.{Bool, true, false, not, true≢false}
use mathlib.Core.List.{List, [], ◌∷◌}
use Prim.Native.Nat.{ℕ, ◌+◌, ◌-◌, ◌*◌, ◌≤◌, ◌<◌}
use native.Mathlib.Omega.{arith}
use native.Mathlib.Decide.{ℕ_discrete}
use lib.ListN.{length, take, drop, length-drop}
use borrow.Author.Tests.{eq-eqb, ne_eqb, not-true, not-false}
use Rattle.std.specs.Prelude.{Result}
use Rattle.lent.specs.declared.Refusal.{Refusal}
use Rattle.lent.specs.declared.Refusal.TheVariants.{BadRecord}
use Rattle.lent.proofs.Pool.{rest_all}
use Rattle.given.specs.Given.{Group}
use Rattle.records.specs.declared.Record.{Record}
use Rattle.records.specs.Records.{kind_of, size_of, is_whole, record_in, Narrow}
use Rattle.records.proofs.Records.{size_some, whole_room}
use Rattle.gather.specs.declared.Filled.{Filled}
use Rattle.gather.specs.Memory.{Takes}
use Rattle.house.specs.declared.Making.{Making}
use Rattle.house.specs.declared.Stage.{Stage}
use Rattle.house.specs.declared.Stage.TheVariants.{Stopped}
use Rattle.house.specs.declared.Found.{Found}
use Rattle.house.specs.declared.Found.TheVariants.{Whole, Short, Unknown}
use Rattle.house.specs.House.{Phase, leads, outcome, printing, reached_in, reached}
use Rattle.house.specs.Memory.{Refused, state_in, verdict_in, added_in, phase_of, Before, phase_left, MadeSoFar, FedSheet}
use Rattle.house.specs.Memory.Refused.{whole, unknown}
use Rattle.making.specs.Taking.{staged, refusing, moved, next_phase, Took, Past, TookFront, Ahead, ItemAt, Opens, GoesOn}
use Rattle.house.proofs.Front.{front_of, front_whole, front_unknown, front_cut, none_cut, rested, item_known, item_room}
use Rattle.house.proofs.Walk.{reached_next}
use Rattle.making.proofs.Taking.{quiet_in, moved_before, did_refused, did_on, front_taken}

-- ---- the piece

feed_start : (input : List ℕ) (start : Making) (w : List ℕ) (g : Group) → Before start w g → MadeSoFar input start w g (moved start start.offset 0) w g
unfolding phase_left
feed_start input start w g b = record {
  within = omega arith;
  place = λ _. omega arith;
  reaches = λ room h. rw (ne_eqb (state_in start.stage) 3 (λ e. omega (arith, b.awaits))) (unfold reached_in in refl);
  refused = λ e. absurd (omega (arith, b.awaits));
  adds = λ e. absurd (omega (arith, e, quiet_in start.stage (λ s. omega (arith, s, b.awaits))));
  quiet = λ _. refl;
  still = λ _. record { state = λ _. refl; ranking = refl; stamp = refl; filled = refl; sheet = refl; lists = refl };
  first = λ _. refl;
  stands = record { before = λ _. moved_before start.offset 0 b; ready = λ e. absurd (omega (arith, b.awaits)); room = b.sound.room };
}

module _ {input : List ℕ} {start : Making} {w₀ : List ℕ} {g₀ : Group} {m : Making} {w : List ℕ} {g : Group} (f : MadeSoFar input start w₀ g₀ m w g) (waits : state_in m.stage ≤ 1) where
  -- more records of the sheet are awaited
  pub phase_here : (room : ℕ) → phase_left room (phase_of start w₀ g₀) m w g ≡ phase_of m w g
  phase_here room = elim (ℕ_discrete m.at 0) [
    | yes z ↦ let s = f.still z in
        unfold phase_left phase_of in rw (ne_eqb (state_in m.stage) 3 (λ e. omega arith), eq-eqb m.at 0 z, s.state (λ e. omega arith), s.filled, s.ranking, s.stamp, s.sheet, s.lists)
    | no n ↦ unfold phase_left in rw (ne_eqb m.at 0 n, ne_eqb (state_in m.stage) 3 (λ e. omega arith))
  ]

  -- a refused one leaves it
  phase_refused : (room : ℕ) (s : Stage) → state_in s ≡ 2 → phase_left room (phase_of start w₀ g₀) m w g ≡ phase_left room (phase_of start w₀ g₀) (staged m s) w g
  phase_refused room s e = elim (ℕ_discrete m.at 0) [
    | yes z ↦ unfold phase_left in rw (e, ne_eqb (state_in m.stage) 3 (λ e. omega arith), eq-eqb m.at 0 z)
    | no n ↦ unfold phase_left phase_of in rw (e, ne_eqb m.at 0 n, ne_eqb (state_in m.stage) 3 (λ e. omega arith), ne_eqb (state_in m.stage) 0 (λ e. n (f.first e)))
  ]

  made_refused : (s : Stage) → state_in s ≡ 2 → (verdict_in s ≡ 10 → added_in s ≡ m.offset ∷ [])
      → ((room : ℕ) → Refused room (phase_of m w g) m.offset (drop m.at input) (verdict_in s)) → MadeSoFar input start w₀ g₀ (staged m s) w g
  made_refused s e a r = record {
    within = f.within;
    place = f.place;
    reaches = λ room h. f.reaches room h ∙ rw (phase_refused room s e);
    refused = λ _ room. rw (← phase_refused room s e, phase_here room) (r room);
    adds = a;
    quiet = λ n. absurd (n e);
    still = λ z. let t = f.still z in record { state = λ n. absurd (n e); ranking = t.ranking; stamp = t.stamp; filled = t.filled; sheet = t.sheet; lists = t.lists };
    first = λ z. absurd (omega (arith, e, z));
    stands = record { before = λ h. absurd (omega (arith, e, h)); ready = λ h. absurd (omega (arith, e, h)); room = f.stands.room };
  }

  -- a record more
  module _ (whole_here : is_whole (drop m.at input) ≡ true) {m' : Making} {w' : List ℕ} {g' : Group} (t : TookFront m w g (drop m.at input) m' w' g') where
    abbrev rest : List ℕ
    rest = drop m.at input

    abbrev size : ℕ
    size = size_of (kind_of rest)

    fits : m.at + size ≤ length input
    fits = omega (arith, whole_room rest whole_here, length-drop m.at input, f.within, size_some (kind_of rest))

    one_refused : state_in m'.stage ≡ 2 → MadeSoFar input start w₀ g₀ m' w' g'
    one_refused e =
        let (a, b, c) = t.done.keeps e in
        let o : m'.offset ≡ m.offset = ap (λ (x : Making). x.offset) a in
        subst (λ (x : Making). MadeSoFar input start w₀ g₀ x w' g') (sym a)
        (rw (b, c) (made_refused m'.stage e t.done.adds (λ room. whole whole_here (t.done.does room ∙ did_refused room m' w' g' e ∙ rw o))))

    module _ (n : state_in m'.stage ≡ 2 → ⊥) where
      one_place : start.offset + m'.at < 18446744073709551616 → m'.offset ≡ start.offset + m'.at
      one_place h =
          let a = t.goes n in
          let p = f.place (omega arith) in
          omega (arith, t.reach n (omega arith))

      one_phase : (room : ℕ) → phase_left room (phase_of start w₀ g₀) m' w' g' ≡ next_phase room m' w' g'
      unfolding phase_left
      one_phase room = rw (ne_eqb m'.at 0 (λ z. omega (arith, t.goes n, size_some (kind_of rest))))

      one_reaches : (room : ℕ) → start.offset + m'.at < 18446744073709551616
          → reached room (phase_of start w₀ g₀) start.offset (take m'.at input) ≡ leads [] (phase_left room (phase_of start w₀ g₀) m' w' g')
      one_reaches room h =
          let a = t.goes n in
          let p : start.offset + m.at ≡ m.offset = sym (f.place (omega arith)) in
          ap (λ (k : ℕ). reached room (phase_of start w₀ g₀) start.offset (take k input)) a
          ∙ reached_next room (phase_of start w₀ g₀) start.offset m.at input (f.reaches room (omega arith)) f.within whole_here
          ∙ ap₂ (λ (x : Phase) (o : ℕ). printing [] (outcome room x o (record_in rest))) (phase_here room) p
          ∙ ap (printing []) (t.done.does room ∙ did_on room m' w' g' n)
          ∙ ap (leads []) (sym (one_phase room))

      one_accepted : MadeSoFar input start w₀ g₀ m' w' g'
      one_accepted = record {
        within = omega (arith, t.goes n, fits);
        place = one_place;
        reaches = one_reaches;
        refused = λ e. absurd (n e);
        adds = λ e. absurd (omega (arith, e, quiet_in m'.stage n));
        quiet = λ _. t.done.quiet n ∙ f.quiet (λ e. omega arith);
        still = λ z. absurd (omega (arith, t.goes n, size_some (kind_of rest)));
        first = λ e. absurd (t.done.some e);
        stands = t.done.stands;
      }

    feed_one : MadeSoFar input start w₀ g₀ m' w' g'
    feed_one = elim (ℕ_discrete (state_in m'.stage) 2) [ yes e ↦ one_refused e | no n ↦ one_accepted n ]

    feed_falls : m.at < length input → 3 * (length input - m'.at) + (2 - state_in m'.stage) < 3 * (length input - m.at) + (2 - state_in m.stage)
    feed_falls h = elim (ℕ_discrete (state_in m'.stage) 2) [
      | yes e ↦ omega (arith, ap (λ (x : Making). x.at) (t.done.keeps e).0)
      | no n ↦ omega (arith, t.goes n, fits, size_some (kind_of rest))
    ]

-- ---- as the code says it

-- what stands ahead
module _ (input : List ℕ) (m : Making) where
  pub ahead_stops : 1 < state_in m.stage → Ahead input m Short
  ahead_stops h = record { takes = λ z. cc; unknown = λ z. cc; cut = λ _ l. absurd (omega arith) }

  pub ahead_ends : length input ≤ m.at → Ahead input m Short
  ahead_ends h = record { takes = λ z. cc; unknown = λ z. cc; cut = λ _ l. none_cut (drop m.at input) (rw length-drop (omega arith)) }

  pub ahead_front : (found : Found) → state_in m.stage ≤ 1 → m.at < length input → found ≡ front_of (rested input m.at) → Ahead input m found
  ahead_front found s l e =
      let q : found ≡ front_of (drop m.at input) = rw (rest_all input m.at) at e in
      record {
        takes = λ z. (s, l, front_whole (drop m.at input) found q z);
        unknown = λ u. (s, l, front_unknown (drop m.at input) found q u);
        cut = λ n _. front_cut (drop m.at input) found q n;
      }

module _ (input : List ℕ) (at : ℕ) (w : is_whole (drop at input) ≡ true) where
  pub whole_rested : is_whole (rested input at) ≡ true
  whole_rested = rw (rest_all input at) w

  pub item_there : (item : Record) → at < length input → length input < 18446744073709551616 → item ≡ record_in (rested input at) → Narrow item → ItemAt input at item
  item_there item l h e n =
      let q : item ≡ record_in (drop at input) = rw (rest_all input at) at e in
      record { read = q; narrow = n; known = item_known (drop at input) item q w; room = item_room (drop at input) item q w (size_of item.kind) at at refl refl (rw length-drop (omega arith)) }

-- the first record
module _ (input : List ℕ) (start : Making) (w₀ : List ℕ) (g₀ : Group) (b : Before start w₀ g₀) where
  abbrev here : Making
  here = moved start start.offset 0

  pub open_later : (state_in start.stage ≡ 0 → ⊥) → Opens input start w₀ g₀ here w₀
  open_later n = record { made = feed_start input start w₀ g₀ b; later = λ z. absurd (n z) }

  module _ (k : Bool) (e : k ≡ is_whole input) where
    pub open_none : not k ≡ true → Opens input start w₀ g₀ here w₀
    open_none h = record { made = feed_start input start w₀ g₀ b; later = λ _. sym e ∙ not-true k h }

    pub open_first : not k ≡ false → (item : Record) → item ≡ record_in input → (m' : Making) (w' : List ℕ) → Took here w₀ g₀ item m' w' g₀ → (size : ℕ) → size ≡ size_of item.kind → (m'' : Making)
        → Past m' size m'' → Opens input start w₀ g₀ m'' w'
    open_first h item i m' w' t size z m'' p =
        let o = front_taken here w₀ g₀ input m' w' g₀ item size m'' i t z p in
        record { made = feed_one (feed_start input start w₀ g₀ b) b.awaits (sym e ∙ not-false k h) o; later = λ s. absurd (o.done.some s) }

-- From a place on: what led there leads here, the first record was taken if it could be, and this stands ahead
pub record Turns (input : List ℕ) (m₀ : Making) (w₀ : List ℕ) (g₀ : Group) (m : Making) (w : List ℕ) (g : Group) (found : Found) : Type 0 where
  pub leads_on_lem : (s : Making) (v : List ℕ) (h : Group) → MadeSoFar input s v h m₀ w₀ g₀ → MadeSoFar input s v h m w g
  pub later : state_in m.stage ≡ 0 → is_whole (drop m.at input) ≡ false
  pub ahead : Ahead input m found

module _ {input : List ℕ} {start : Making} {w₀ : List ℕ} {g₀ : Group} {m₁ : Making} {w₁ : List ℕ} (o : Opens input start w₀ g₀ m₁ w₁) where
  pub turns_start : {found : Found} → Ahead input m₁ found → Turns input m₁ w₁ g₀ m₁ w₁ g₀ found
  turns_start a = record { leads_on_lem = λ s v h f. f; later = o.later; ahead = a }

  module _ {m : Making} {w : List ℕ} {g : Group} {found : Found} (f : Turns input m₁ w₁ g₀ m w g found) where
    made_here : MadeSoFar input start w₀ g₀ m w g
    made_here = f.leads_on_lem start w₀ g₀ o.made

    -- a turn
    module _ (z : found ≡ Whole) where
      pub turn_before : Before m w g
      turn_before = made_here.stands.before (f.ahead.takes z).0

      turn_state : state_in m.stage ≡ 1
      turn_state = elim (ℕ_discrete (state_in m.stage) 0) [
        | yes e ↦ absurd (true≢false (sym (f.ahead.takes z).2 ∙ f.later e))
        | no n ↦ omega (arith, (f.ahead.takes z).0)
      ]

      module _ {item : Record} (i : ItemAt input m.at item) {t : Result Filled Refusal} {w' : List ℕ} {g' : Group} (k : Takes w m.filled g item t w' g') {m' : Making} (y : GoesOn m item t m') where
        took : TookFront m w g (drop m.at input) m' w' g'
        took = y.goes w g w' g' (drop m.at input) turn_before turn_state i.read k

        pub turn_falls : 3 * (length input - m'.at) + (2 - state_in m'.stage) < 3 * (length input - m.at) + (2 - state_in m.stage)
        turn_falls = feed_falls made_here (f.ahead.takes z).0 (f.ahead.takes z).2 took (f.ahead.takes z).1

        pub turn_one : {found' : Found} → Ahead input m' found' → Turns input m₁ w₁ g₀ m' w' g' found'
        turn_one a = record {
          leads_on_lem = λ s v h l. feed_one (f.leads_on_lem s v h l) (f.ahead.takes z).0 (f.ahead.takes z).2 took;
          later = λ s. absurd (took.done.some s);
          ahead = a;
        }

    -- none to take
    pub turns_end : (found ≡ Whole → ⊥) → {m' : Making} → (found ≡ Unknown → m' ≡ refusing m (BadRecord m.offset)) × ((found ≡ Unknown → ⊥) → m' ≡ m) → FedSheet input start w₀ g₀ m' w g
    turns_end n {m'} q = by found refl
      where
        by : (x : Found) → found ≡ x → FedSheet input start w₀ g₀ m' w g
        by Whole e = absurd (n e)
        by Short e = subst (λ (x : Making). FedSheet input start w₀ g₀ x w g) (sym (q.1 (λ u. unseen (sym e ∙ u)))) (record { made = made_here; cut = f.ahead.cut e })
          where
            unseen : Short ≡ Unknown → ⊥
            unseen u = cc
        by Unknown u =
            let (s, l, e) = f.ahead.unknown u in
            subst (λ (x : Making). FedSheet input start w₀ g₀ x w g) (sym (q.0 u)) (record {
              made = made_refused made_here s (Stopped (BadRecord m.offset)) refl (λ _. refl) (λ room. unknown (rw length-drop (omega arith)) e refl);
              cut = λ h. absurd (omega arith);
            })
