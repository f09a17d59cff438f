-- The ids of a list that pass a test, written one after the other. Assumes nothing.
use mathlib.Core.Path.{◌≡◌, refl, sym, ap, ◌∙◌}
use mathlib.Core.Bool.{Bool, true, false, cond}
use mathlib.Core.List.{List, [], ◌∷◌, ◌++◌, append-nil}
use Prim.Native.Nat.{ℕ, suc, ◌+◌, ◌≤◌, ◌<◌}
use native.Mathlib.Numerals.{add-one}
use native.Mathlib.Omega.{arith}
use lib.ListN.{length, get_or, take, drop, set, length-append, length-take}
use lib.Seq.{take-suc, take_all}
use mir.Syntax.{w16}
use mir.Val.{Fits}
use Rattle.theory.specs.Lists.{at_most}
use Rattle.theory.proofs.Spreads.{at_most_at}
use Rattle.idset.specs.Buffers.{Holds}
use Rattle.idset.proofs.Buffers.{held_length}
use Rattle.changes.specs.Asked.{keep}
use Rattle.changes.proofs.Keep.{keep_append, keep_length}

-- one more behind what a buffer holds
set_end : (l d : List ℕ) (x : ℕ) → length l < length d → set (l ++ drop (length l) d) (length l) x ≡ (l ++ x ∷ []) ++ drop (suc (length l)) d
set_end [] [] x h = absurd (omega arith)
set_end [] (a ∷ d) x h = refl
set_end (b ∷ l) [] x h = absurd (omega arith)
set_end (b ∷ l) (a ∷ d) x h = ap (λ m. b ∷ m) (set_end l d x (omega arith))

held_one : {l d e : List ℕ} {n : ℕ} → Holds l d n e → (x : ℕ) → n < length d → Holds (l ++ x ∷ []) d (n + 1) (set e n x)
held_one {l} {d} {e} {n} h x g =
    let c : n ≡ length l = h.count in
    record {
      count = rw (length-append l (x ∷ []), c);
      whole = rw (h.whole, add-one n, c) (set_end l d x (omega arith));
    }

pub record Picking (f : ℕ → Bool) (c d : List ℕ) (i n : ℕ) (e : List ℕ) : Type 0 where
  pub room : length c ≤ length d
  pub half : at_most 65535 c ≡ true
  -- no more are written than were looked at
  pub few : n ≤ i
  pub holds : Holds (keep f (take i c)) d n e

pub picking_start : {f : ℕ → Bool} {c d : List ℕ} → (length c ≤ length d) × (at_most 65535 c ≡ true) → Picking f c d 0 0 d
picking_start h = record { room = h.0; half = h.1; few = omega arith; holds = unfold keep in (record { count = refl; whole = refl }) }

module _ {f : ℕ → Bool} {c d e : List ℕ} {i n : ℕ} (s : Picking f c d i n e) where
  within : n ≤ length c
  within = let short : length (take i c) ≤ length c = rw length-take (omega arith) in omega (arith, s.holds.count, keep_length f (take i c))

  kept_next : (b : Bool) → i < length c → f (get_or c i 0) ≡ b → keep f (take (suc i) c) ≡ keep f (take i c) ++ cond b (get_or c i 0 ∷ []) []
  unfolding keep
  kept_next b h t = rw (take-suc c i 0 h) (keep_append f (take i c) (get_or c i 0 ∷ []) ∙ rw t)

  pub picking_size : length e ≡ length d
  picking_size = held_length s.holds (omega (arith, within, s.room))

  pub picking_room : i < length c → n < length e
  picking_room h = omega (arith, picking_size, s.few, s.room)

  pub picking_half : {x : ℕ} → i < length c → x ≡ get_or c i 0 → Fits w16 x
  picking_half {x} h e = record { fits = omega (arith, at_most_at 65535 c i s.half h) }

  pub picking_one : {x : ℕ} {b : Bool} → i < length c → x ≡ get_or c i 0 → b ≡ f x → b ≡ true → Picking f c d (i + 1) (n + 1) (set e n x)
  picking_one {x} {b} h q t o =
      let y : f (get_or c i 0) ≡ true = rw q at (sym t ∙ o) in
      record {
        room = s.room;
        half = s.half;
        few = omega (arith, s.few);
        holds = rw (add-one i, kept_next true h y, q) (held_one s.holds (get_or c i 0) (omega (arith, s.few, s.room)));
      }

  pub picking_none : {x : ℕ} {b : Bool} → i < length c → x ≡ get_or c i 0 → b ≡ f x → b ≡ false → Picking f c d (i + 1) n e
  picking_none {x} {b} h q t o =
      let y : f (get_or c i 0) ≡ false = rw q at (sym t ∙ o) in
      record { room = s.room; half = s.half; few = omega (arith, s.few); holds = rw (add-one i, kept_next false h y, append-nil (keep f (take i c))) s.holds }

  pub picking_end : length c ≤ i → Holds (keep f c) d n e
  picking_end h = rw (take_all i c h) at s.holds
