-- The ways through the functions that take a record of those up to kind 8. Assumes nothing.
use mathlib.Core.Path.{◌≡◌, refl, sym, ap, ◌∙◌, subst}
use mathlib.Core.Bool.{cond, true, false}
use mathlib.Core.List.{List, [], ◌∷◌}
use Prim.Native.Nat.{ℕ, ◌+◌, ◌≤◌, ◌<◌}
use native.Mathlib.Omega.{arith}
use native.Mathlib.Decide.{ℕ_discrete}
use lib.ListN.{get_or, drop, replicate, length-replicate}
use lib.Seq.{sets}
use lib.Dec.{eqb}
use borrow.Author.Tests.{le-ltb, lt-ltb, eq-eqb, ne_eqb}
use Rattle.std.specs.Prelude.{Result, Ok, Err}
use Rattle.lent.specs.Refusals.{number_of, added, told, first_of}
use Rattle.lent.specs.declared.Refusal.{Refusal}
use Rattle.lent.specs.declared.Refusal.TheVariants.{NotAscending, OverSize, CombinatorCount, NotAState, NoRoom, CodeOutOfRange, NoSourceIndex, BufferTooShort, NoSuchRule, BadRecord, BrokenShape}
use Rattle.lent.proofs.Refusals.{refusal_number}
use Rattle.sheet.specs.Layout.{SHEET-WORDS}
use Rattle.sheet.specs.Laying.{emptied}
use Rattle.sheet.specs.Shape.{sheet_shape}
use Rattle.given.specs.Given.{Group}
use Rattle.laid.proofs.Emptied.{shape_emptied}
use Rattle.records.specs.declared.Record.{Record}
use Rattle.records.specs.Records.{size_of, record_in}
use Rattle.gather.specs.declared.Filled.{Filled}
use Rattle.gather.specs.declared.OpenKind.TheVariants.{Nothing}
use Rattle.gather.specs.Opened.{nothing}
use Rattle.gather.specs.Making.{making_verdict, sheet_after, open_after}
use Rattle.gather.specs.Memory.{open_of, Roomy, Sound, Takes}
use Rattle.wording.specs.Lines.{refused_line}
use Rattle.house.specs.declared.Making.{Making}
use Rattle.house.specs.declared.Stage.{Stage}
use Rattle.house.specs.declared.Stage.TheVariants.{Unbegun, Begun, Stopped, Done}
use Rattle.house.specs.House.{first, making, stops, leads, empty_sheet, first_verdict, making_outcome, outcome}
use Rattle.house.specs.Memory.{state_in, verdict_in, phase_of, Before, Stands}
use Rattle.making.specs.Taking.{staged, placed, refusing, moved, next_phase, did, Took, Past, TookFront, GoesOn}
use Rattle.house.proofs.Never.{build_never_refused}
use Rattle.house.proofs.Front.{item_size}

-- ---- the refusal of a record at its offset

-- its number, and of 10 the offset
placed_told : (r : Refusal) (offset : ℕ) → told (placed r offset) ≡ number_of r ∷ cond (eqb (number_of r) 10) (offset ∷ []) []
placed_told NotAscending offset = refl
placed_told OverSize offset = refl
placed_told CombinatorCount offset = refl
placed_told NotAState offset = refl
placed_told NoRoom offset = refl
placed_told CodeOutOfRange offset = refl
placed_told NoSourceIndex offset = refl
placed_told BufferTooShort offset = refl
placed_told NoSuchRule offset = refl
placed_told (BadRecord at) offset = refl
placed_told BrokenShape offset = refl

pub placed_number : (r : Refusal) (offset : ℕ) → number_of (placed r offset) ≡ number_of r
placed_number r offset = ap (λ (l : List ℕ). get_or l 0 0) (placed_told r offset)

pub placed_adds : (r : Refusal) (offset : ℕ) → number_of (placed r offset) ≡ 10 → added (placed r offset) ≡ offset ∷ []
placed_adds r offset e =
    let ten : number_of r ≡ 10 = sym (placed_number r offset) ∙ e in
    ap (drop 1) (placed_told r offset) ∙ rw ten

pub placed_same : (r : Refusal) (offset : ℕ) → ((at : ℕ) → r ≡ BadRecord at → ⊥) → r ≡ placed r offset
placed_same NotAscending offset n = refl
placed_same OverSize offset n = refl
placed_same CombinatorCount offset n = refl
placed_same NotAState offset n = refl
placed_same NoRoom offset n = refl
placed_same CodeOutOfRange offset n = refl
placed_same NoSourceIndex offset n = refl
placed_same BufferTooShort offset n = refl
placed_same NoSuchRule offset n = refl
placed_same (BadRecord at) offset n = absurd (n at refl)
placed_same BrokenShape offset n = refl

-- ---- the phase

module _ (m : Making) (w : List ℕ) (g : Group) where
  phase_first : state_in m.stage ≡ 0 → phase_of m w g ≡ first
  unfolding phase_of
  phase_first e = rw e

  phase_making : state_in m.stage ≡ 1 → phase_of m w g ≡ making w (open_of m.filled g) m.ranking m.stamp
  unfolding phase_of
  phase_making e = rw e

  -- a refused record
  took_refused : (r : Record) (e : Refusal) → (number_of e ≡ 10 → added e ≡ m.offset ∷ []) → Roomy g
      → ((room : ℕ) → outcome room (phase_of m w g) m.offset r ≡ stops (refused_line (number_of e) m.offset))
      → Took m w g r (staged m (Stopped e)) w g
  unfolding did
  took_refused r e a room o = record {
    done = record {
      does = o;
      stands = record { before = λ h. absurd (omega arith); ready = λ h. absurd (omega arith); room = room };
      keeps = λ _. (refl, refl, refl);
      adds = a;
      quiet = λ n. absurd (n refl);
      some = λ z. absurd (omega arith);
    };
    at = refl;
    offset = refl;
  }

-- an accepted one leads on, from the same place
abbrev led : Making → Stage → ℕ → ℕ → Filled → Making
led m stage ranking stamp f = record { stage = stage; ranking = ranking; stamp = stamp; offset = m.offset; at = m.at; filled = f }

-- where none was refused no number is told
pub quiet_in : (s : Stage) → (state_in s ≡ 2 → ⊥) → verdict_in s ≡ 0
quiet_in Unbegun n = refl
quiet_in Begun n = refl
quiet_in (Stopped r) n = absurd (n refl)
quiet_in Done n = refl

took_on : {m : Making} {w : List ℕ} {g : Group} {r : Record} {stage : Stage} {ranking stamp : ℕ} {f : Filled} {w' : List ℕ} {g' : Group}
    → (state_in m.stage ≡ 2 → ⊥)
    → (state_in stage ≡ 2 → ⊥)
    → (state_in stage ≡ 0 → ⊥)
    → ((room : ℕ) → outcome room (phase_of m w g) m.offset r ≡ did room (led m stage ranking stamp f) w' g')
    → Stands (led m stage ranking stamp f) w' g'
    → Took m w g r (led m stage ranking stamp f) w' g'
took_on {m} {stage = stage} b n z e s = record {
  done = record {
    does = e;
    stands = s;
    keeps = λ x. absurd (n x);
    adds = λ x. absurd (omega (arith, x, quiet_in stage n));
    quiet = λ _. quiet_in stage n ∙ sym (quiet_in m.stage b);
    some = z;
  };
  at = refl;
  offset = refl;
}

-- and in the making another may come
stands_making : {m : Making} {w : List ℕ} {g : Group} → state_in m.stage ≡ 1 → Sound m.filled g → sheet_shape w ≡ true → m.ranking ≤ 1 → Stands m w g
stands_making e sound shape ranking = record {
  before = λ l. record {
    awaits = l;
    zeros = λ z. absurd (omega (arith, e, z));
    nothing = λ z. absurd (omega (arith, e, z));
    sound = sound;
    shape = shape;
    ranking = ranking;
  };
  ready = λ x. absurd (omega (arith, e, x));
  room = sound.room;
}

-- ---- "1 sheet, first and once"

abbrev begun : Making → Record → Making
begun m r = led m Begun r.first r.second m.filled

not_first : (r : Record) → (r.kind ≡ 1 → ⊥) → first_verdict r ≡ 10
unfolding first_verdict first_of
not_first r n = rw (ne_eqb r.kind 1 n)

not_ranking : (r : Record) → r.kind ≡ 1 → 1 < r.first → first_verdict r ≡ 6
unfolding first_verdict first_of
not_ranking r e h = rw (eq-eqb r.kind 1 e, lt-ltb 1 r.first h)

is_first : (r : Record) → r.kind ≡ 1 → r.first ≤ 1 → first_verdict r ≡ 0
unfolding first_verdict first_of
is_first r e h = rw (eq-eqb r.kind 1 e, le-ltb 1 r.first h)

open_nothing : (f : Filled) (g : Group) → f.opening ≡ Nothing → open_of f g ≡ nothing
unfolding open_of
open_nothing f g e = rw e

module _ (m : Making) (w : List ℕ) (g : Group) (b : Before m w g) (z : state_in m.stage ≡ 0) (r : Record) where
  begin_refused : (v : Refusal) → first_verdict r ≡ number_of v → eqb (number_of v) 0 ≡ false → Took m w g r (refusing m v) w g
  begin_refused v e n =
      took_refused m w g r (placed v m.offset) (placed_adds v m.offset) b.sound.room (λ room.
      rw (phase_first m w g z, placed_number v m.offset) (unfold outcome in rw (e, n)))

  pub begin_kind : (m' : Making) (at : ℕ) → m' ≡ refusing m (BadRecord at) → (r.kind ≡ 1 → ⊥) → Took m w g r m' w g
  begin_kind m' at q n = rw q (begin_refused (BadRecord at) (not_first r n) refl)

  pub begin_ranking : (m' : Making) → m' ≡ refusing m CodeOutOfRange → r.kind ≡ 1 → 1 < r.first → Took m w g r m' w g
  begin_ranking m' q e h = rw q (begin_refused CodeOutOfRange (not_ranking r e h) refl)

  emptied_is : (w' : List ℕ) → w' ≡ sets w 0 (replicate 7 0) → w' ≡ empty_sheet
  unfolding emptied
  emptied_is w' q = q ∙ rw (b.zeros z)

  pub begin_taken : (w' : List ℕ) → r.kind ≡ 1 → r.first ≤ 1 → w' ≡ sets w 0 (replicate 7 0) → Took m w g r (begun m r) w' g
  begin_taken w' e h q =
      let s = emptied_is w' q in
      took_on
      (λ x. omega (arith, z, x))
      (λ x. omega arith)
      (λ x. omega arith)
      (λ room. rw (phase_first m w g z, s) (begun_does room))
      (stands_making refl b.sound (rw s (shape_emptied (replicate SHEET-WORDS 0) (rw length-replicate (omega arith)))) h)
    where
      begun_does : (room : ℕ) → outcome room first m.offset r ≡ did room (begun m r) empty_sheet g
      begun_does room = unfold outcome did phase_of in rw (is_first r e h, open_nothing m.filled g (b.nothing z))

-- ---- a record after the first

abbrev stage_after : ℕ → Stage
stage_after kind = cond (eqb kind 8) Done Begun

abbrev gone : Making → Stage → Filled → Making
gone m stage f = led m stage m.ranking m.stamp f

module _ (m : Making) (w : List ℕ) (g : Group) (b : Before m w g) (z : state_in m.stage ≡ 1) (r : Record) (w' : List ℕ) (g' : Group) where
  go_refused : (e x : Refusal) → Takes w m.filled g r (Err e) w' g' → (m' : Making) → m' ≡ staged m (Stopped x)
      → number_of x ≡ number_of e → (number_of x ≡ 10 → added x ≡ m.offset ∷ []) → Took m w g r m' w' g'
  go_refused e x k m' q n a =
      let same : w' ≡ w = k.sheet ∙ rw (← k.answer, ne_eqb (number_of e) 0 (refusal_number e)) in
      rw (q, same, (k.keeps (refusal_number e)).1) (took_refused m w g r x a b.sound.room (λ room.
      rw (phase_making m w g z, n) (unfold outcome making_outcome in rw (← k.answer, ne_eqb (number_of e) 0 (refusal_number e)))))

  module _ (f : Filled) (k : Takes w m.filled g r (Ok f) w' g') where
    zero_verdict : making_verdict w (open_of m.filled g) r ≡ 0
    zero_verdict = sym k.answer

    sheet_after_lem : w' ≡ sheet_after w (open_of m.filled g) r
    sheet_after_lem = k.sheet ∙ rw zero_verdict

    open_after_lem : open_of f g' ≡ open_after (open_of m.filled g) r
    open_after_lem = k.opens refl

    go_end : r.kind ≡ 8 → Took m w g r (gone m Done f) w' g'
    go_end e =
        took_on
        (λ x. omega (arith, z, x))
        (λ x. omega arith)
        (λ x. omega arith)
        (λ room.
        rw (phase_making m w g z) (unfold outcome making_outcome did in rw (
          zero_verdict,
          eq-eqb r.kind 8 e,
          ← sheet_after_lem,
          build_never_refused w' m.ranking room k.shape b.ranking,
        )))
        (record { before = λ l. absurd (omega arith); ready = λ x. (k.shape, b.ranking); room = k.sound.room })

    go_on : (r.kind ≡ 8 → ⊥) → Took m w g r (gone m Begun f) w' g'
    go_on n =
        took_on
        (λ x. omega (arith, z, x))
        (λ x. omega arith)
        (λ x. omega arith)
        (λ room. rw (phase_making m w g z) (unfold outcome making_outcome did phase_of in rw (zero_verdict, ne_eqb r.kind 8 n, ← sheet_after_lem, ← open_after_lem)))
        (stands_making refl k.sound k.shape b.ranking)

    -- as the code says the state
    go_after : (s : Stage) → s ≡ stage_after r.kind → Took m w g r (gone m s f) w' g'
    go_after s q = elim (ℕ_discrete r.kind 8) [
      | yes e ↦ let i : s ≡ Done = q ∙ rw (eq-eqb r.kind 8 e) in rw i (go_end e)
      | no n ↦ let i : s ≡ Begun = q ∙ rw (ne_eqb r.kind 8 n) in rw i (go_on n)
    ]

pub stage_end : (kind : ℕ) → kind ≡ 8 → Done ≡ stage_after kind
stage_end kind e = rw e

pub stage_on : (kind : ℕ) → (kind ≡ 8 → ⊥) → Begun ≡ stage_after kind
stage_on kind n = rw (ne_eqb kind 8 n)

-- ---- past a record

pub past_stays : (m : Making) (size : ℕ) → state_in m.stage ≡ 2 → Past m size m
past_stays m size e = record { stays = λ _. refl; goes = λ n. absurd (n e); reach = λ n. absurd (n e) }

pub past_goes : (m : Making) (size o : ℕ) → (state_in m.stage ≡ 2 → ⊥) → (m.offset + size < 18446744073709551616 → o ≡ m.offset + size) → Past m size (moved m o (m.at + size))
past_goes m size o n h = record { stays = λ e. absurd (n e); goes = λ _. refl; reach = λ _. h }

-- ---- the record at the front

pub moved_before : {m : Making} {w : List ℕ} {g : Group} (o a : ℕ) → Before m w g → Before (moved m o a) w g
moved_before o a b = record { awaits = b.awaits; zeros = b.zeros; nothing = b.nothing; sound = b.sound; shape = b.shape; ranking = b.ranking }

pub moved_stands : {m : Making} {w : List ℕ} {g : Group} (o a : ℕ) → Stands m w g → Stands (moved m o a) w g
moved_stands o a s = record { before = λ h. moved_before o a (s.before h); ready = s.ready; room = s.room }

-- what a record did, by the state
module _ (room : ℕ) (m : Making) (w : List ℕ) (g : Group) where
  pub did_refused : state_in m.stage ≡ 2 → did room m w g ≡ stops (refused_line (verdict_in m.stage) m.offset)
  unfolding did
  did_refused e = rw e

  pub did_on : (state_in m.stage ≡ 2 → ⊥) → did room m w g ≡ leads [] (next_phase room m w g)
  unfolding did
  did_on n = rw (ne_eqb (state_in m.stage) 2 n)

  -- an accepted one leads where it did, wherever it stood
  did_moved : (state_in m.stage ≡ 2 → ⊥) → (o a : ℕ) → did room m w g ≡ did room (moved m o a) w g
  unfolding did phase_of
  did_moved n o a = rw (ne_eqb (state_in m.stage) 2 n)

-- as the code reads it
module _ (m : Making) (w : List ℕ) (g : Group) (bytes : List ℕ) (m' : Making) (w' : List ℕ) (g' : Group) (item : Record) (size : ℕ) (m'' : Making)
    (e : item ≡ record_in bytes) (t : Took m w g item m' w' g') (z : size ≡ size_of item.kind) where
  front_refused : state_in m'.stage ≡ 2 → TookFront m w g bytes m' w' g'
  front_refused s = record { done = rw (← e) t.done; goes = λ n. absurd (n s); reach = λ n. absurd (n s) }

  front_moved : (state_in m'.stage ≡ 2 → ⊥) → (o : ℕ) → (m'.offset + size < 18446744073709551616 → o ≡ m'.offset + size) → TookFront m w g bytes (moved m' o (m'.at + size)) w' g'
  front_moved n o reach =
      let y = item_size bytes item e size z in
      record {
        done = record {
          does = λ room. rw (← e) (t.done.does room ∙ did_moved room m' w' g' n o (m'.at + size));
          stands = moved_stands o (m'.at + size) t.done.stands;
          keeps = λ s. absurd (n s);
          adds = t.done.adds;
          quiet = t.done.quiet;
          some = t.done.some;
        };
        goes = λ _. rw (t.at, y);
        reach = λ _ h. reach (omega (arith, t.offset, y)) ∙ rw (t.offset, y);
      }

  pub front_taken : Past m' size m'' → TookFront m w g bytes m'' w' g'
  front_taken p = elim (ℕ_discrete (state_in m'.stage) 2) [
    | yes s ↦ subst (λ (x : Making). TookFront m w g bytes x w' g') (sym (p.stays s)) (front_refused s)
    | no n ↦ subst (λ (x : Making). TookFront m w g bytes x w' g') (sym (p.goes n)) (front_moved n m''.offset (p.reach n))
  ]

-- one that isn't the first, in whatever memory it was taken
module _ (m : Making) (r : Record) (t : Result Filled Refusal) where
  pub on_refused : (e : Refusal) → t ≡ Err e → (x : Refusal) (m' : Making) → m' ≡ staged m (Stopped x)
      → number_of x ≡ number_of e → (number_of x ≡ 10 → added x ≡ m.offset ∷ []) → GoesOn m r t m'
  on_refused e i x m' q n a = rw i (record {
    goes = λ w g w' g' bytes b z l k.
        front_refused m w g bytes m' w' g' r (size_of r.kind) m' l (go_refused m w g b z r w' g' e x k m' q n a) refl (ap (λ (x : Making). state_in x.stage) q);
  })

  pub on_passed : (f : Filled) → t ≡ Ok f → (s : Stage) → s ≡ stage_after r.kind → (size : ℕ) → size ≡ size_of r.kind → (m'' : Making) → Past (gone m s f) size m'' → GoesOn m r t m''
  on_passed f i s q size y m'' p = rw i (record {
    goes = λ w g w' g' bytes b z e k. front_taken m w g bytes (gone m s f) w' g' r size m'' e (go_after m w g b z r w' g' f k s q) y p;
  })
