-- Laws of the walk that writes the root's cursors. Assumes nothing.
use mathlib.Core.Path.{◌≡◌, refl, sym, ap, ◌∙◌}
use mathlib.Core.Bool.{true}
use mathlib.Core.List.{List, [], ◌∷◌, ◌++◌, append-nil}
use Prim.Native.Nat.{ℕ, suc, ◌+◌, ◌-◌, ◌*◌, ◌≤◌, ◌<◌}
use native.Mathlib.Nat.{zero-add}
use native.Mathlib.Numerals.{add-one}
use native.Mathlib.Omega.{arith}
use lib.ListN.{length, get_or, set, take, drop, length-append}
use lib.IntN.{ℤ}
use lib.Seq.{drop-cons, append_snoc, set_at}
use lib.Dec.{ltb, eqb}
use mir.Syntax.{w32}
use mir.Val.{of_z}
use borrow.Author.Tests.{lt-ltb}
use Rattle.theory.specs.Lists.{spread, only, compare}
use Rattle.theory.specs.States.{cursor, starts}
use Rattle.theory.proofs.Spreads.{length_spread, spread_snoc}
use Rattle.idset.specs.Buffers.{Holds}
use Rattle.lent.specs.Pool.{start_of}
use Rattle.idset.proofs.Buffers.{held_take, held_length}
use Rattle.sheet.specs.Layout.{rules_in}
use Rattle.sheet.specs.Sheets.{part_at, between, rule_step_ends}
use Rattle.sheet.specs.Shape.{sheet_shape}
use Rattle.sheet.proofs.ReadLaws.{length_between}
use Rattle.sheet.proofs.Shaped.{shaped}
use Rattle.table.specs.Tables
use Rattle.table.specs.Tables.{selectors_of}
use Rattle.table.specs.Shape.{root_cursors}
use Rattle.table.proofs.Selectors.{selectors_are, starts_snoc}
use Rattle.table.proofs.Same.{same_told}

-- the root's cursors of the first r rules
abbrev roots_below : List ℕ → ℕ → List ℕ
roots_below w r = starts 0 (spread (between (part_at w) (rule_step_ends w)) 0 r)

roots_next : (w : List ℕ) (r : ℕ) → roots_below w (r + 1) ≡ roots_below w r ++ only (ltb 0 (rule_step_ends w r - start_of (rule_step_ends w) r)) (r * 8)
roots_next w r =
    let sel = between (part_at w) (rule_step_ends w) in
    let e : cursor (0 + r) 0 ≡ r * 8 = omega arith in
    let p : spread sel 0 (r + 1) ≡ spread sel 0 r ++ sel r ∷ [] = spread_snoc sel 0 r ∙ rw zero-add in
    rw p (starts_snoc 0 (spread sel 0 r) (sel r) ∙ rw (length_spread sel 0 r, length_between (part_at w) (rule_step_ends w) r, e))

-- a walk over n rules, at r: the cursors of those before it are the first k words of `c`
pub record Rooting (w c₀ : List ℕ) (n r k : ℕ) (c : List ℕ) : Type 0 where
  pub rules : n ≡ rules_in w
  pub few : n ≤ 256
  pub room : 256 ≤ length c₀
  pub within : r ≤ n
  pub low : k ≤ r
  pub held : Holds (roots_below w r) c₀ k c

pub root_start : (w c : List ℕ) (n : ℕ) → (sheet_shape w ≡ true) × (256 ≤ length c) → n ≡ rules_in w → Rooting w c n 0 0 c
root_start w c n (e, h) q = record {
  rules = q;
  few = rw q (shaped w e).rules;
  room = h;
  within = omega arith;
  low = omega arith;
  held = record { count = refl; whole = refl };
}

module _ {w c₀ : List ℕ} {n r k : ℕ} {c : List ℕ} (u : Rooting w c₀ n r k c) where
  pub root_length : length c ≡ length c₀
  root_length = held_length u.held (omega (arith, u.low, u.within, u.few, u.room))

  pub root_fits : r < n → k < length c
  root_fits h = omega (arith, root_length, u.low, u.few, u.room)

  pub root_end : n ≤ r → Holds (starts 0 (selectors_of w)) c₀ k c
  root_end h =
      let q : rules_in w ≡ r = omega (arith, u.rules, u.within) in
      let e : starts 0 (selectors_of w) ≡ roots_below w r = rw (selectors_are w, q) in
      rw e u.held

  module _ (h : r < n) (from to : ℕ) (f : from ≡ start_of (rule_step_ends w) r) (g : to ≡ rule_step_ends w r) where
    -- a rule without steps
    pub root_no : to ≤ from → Rooting w c₀ n (r + 1) k c
    root_no l =
        let e : rule_step_ends w r - start_of (rule_step_ends w) r ≡ 0 = omega arith in
        let same : roots_below w (r + 1) ≡ roots_below w r = roots_next w r ∙ rw e (append-nil (roots_below w r)) in
        record { rules = u.rules; few = u.few; room = u.room; within = omega arith; low = omega (arith, u.low); held = rw same u.held }

    -- a rule with steps
    pub root_yes : from < to → Rooting w c₀ n (r + 1) (k + 1) (set c k (r * 8))
    root_yes l =
        let e : 0 < rule_step_ends w r - start_of (rule_step_ends w) r = omega arith in
        let done = roots_below w r in
        let more : roots_below w (r + 1) ≡ done ++ r * 8 ∷ [] = roots_next w r ∙ rw (lt-ltb 0 _ e) in
        let fit : k < length c₀ = omega (arith, root_fits h, root_length) in
        let whole : set c k (r * 8) ≡ done ++ r * 8 ∷ drop (suc k) c₀
        = ap (λ q. set q k (r * 8)) (u.held.whole ∙ ap (λ q. done ++ q) (drop-cons c₀ k 0 fit)) ∙ set_at done (get_or c₀ k 0) (drop (suc k) c₀) (r * 8) k (sym u.held.count) in
        record {
          rules = u.rules;
          few = u.few;
          room = u.room;
          within = omega arith;
          low = omega (arith, u.low);
          held = rw more (record {
            count = ap (λ q. q + 1) u.held.count ∙ sym (length-append done (r * 8 ∷ []));
            whole = rw (add-one k) (whole ∙ sym (append_snoc done (r * 8) (drop (suc k) c₀)));
          });
        }

-- ---- what it has written

-- the list is within the buffer
pub held_within : {l d e : List ℕ} {n : ℕ} → Holds l d n e → n ≤ length e
held_within {l} {d} {e} {n} h = rw (h.whole, length-append l (drop n d)) (omega (arith, h.count))

pub roots_are : (w states cursors l d e : List ℕ) (n : ℕ) (z : ℤ)
    → l ≡ Tables.cursors_at states cursors 0
    → Holds (starts 0 (selectors_of w)) d n e
    → z ≡ compare l (take n e)
    → eqb (of_z w32 z) 0 ≡ root_cursors w states cursors
unfolding root_cursors
roots_are w states cursors l d e n z p h q = rw (q, held_take h, p) (same_told (Tables.cursors_at states cursors 0) (starts 0 (selectors_of w)) _ refl)
