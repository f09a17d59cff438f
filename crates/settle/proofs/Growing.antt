-- The words of a new state, and the ways through settling. Assumes nothing.
use mathlib.Core.Path.{◌≡◌}
use mathlib.Core.Bool.{Bool, true, false, not}
use mathlib.Core.List.{List, [], ◌∷◌}
use Prim.Native.Nat.{ℕ, ◌+◌, ◌*◌, ◌≤◌, ◌<◌}
use native.Mathlib.Omega.{arith}
use lib.ListN.{length}
use lib.Seq.{sets}
use borrow.Author.Tests.{lt-ltb, le-ltb}
use Rattle.lent.specs.Pool.{address_of}
use Rattle.table.specs.Tables.{table, states_in, cursors_in, matched_in}
use Rattle.table.specs.Entering.{room_for, grown, number_for, holding}
use Rattle.finding.specs.States.{state}
use Rattle.std.specs.Prelude.{Some, None}
use Rattle.settle.specs.Settling.{Settles}

-- ---- a new state

pub grown_is : (h s c m nc nm h' s' c' m' : List ℕ) (n kc km wc wm at : ℕ)
    → n ≡ states_in h
    → kc ≡ cursors_in h
    → km ≡ matched_in h
    → wc ≡ kc
    → c' ≡ sets c wc nc
    → wm ≡ km
    → m' ≡ sets m wm nm
    → at ≡ address_of 0 3 n
    → s' ≡ sets s at ((kc + length nc) ∷ (km + length nm) ∷ 0 ∷ [])
    → h' ≡ sets h 2 ((n + 1) ∷ (kc + length nc) ∷ (km + length nm) ∷ [])
    → (t : List ℕ) → table h' s' c' m' t ≡ grown (table h s c m t) (state nc nm)
unfolding grown
grown_is h s c m nc nm h' s' c' m' n kc km wc wm at en ec em ewc pc ewm pm ea ps ph t =
    let a : at ≡ 3 * n = omega arith in
    rw (pc, pm, ps, ph, ewc, ewm, a, en, ec, em)

-- ---- settling

module _ (h s c m nc nm : List ℕ) (n k : ℕ) (en : n ≡ states_in h) (ek : k ≡ number_for s c m n (state nc nm)) where
  pub settle_held : k < n → (t : List ℕ) → Settles (table h s c m t) (state nc nm) (Some k) (table h s c m t)
  unfolding holding
  settle_held l t = record { answer = rw (← en, ← ek, lt-ltb k n l); memory = rw (← en, ← ek, lt-ltb k n l) }

  module _ (new : n ≤ k) (b : Bool) (eb : b ≡ room_for h (length s) (length c) (length m) (state nc nm)) where
    pub settle_full : not b ≡ true → (t : List ℕ) → Settles (table h s c m t) (state nc nm) None (table h s c m t)
    settle_full e t = record { answer = rw (← en, ← ek, le-ltb k n new, ← eb, e); memory = rw (← en, ← ek, le-ltb k n new, ← eb, e) }

    pub settle_new : {h' s' c' m' : List ℕ}
        → not b ≡ false
        → ((t : List ℕ) → table h' s' c' m' t ≡ grown (table h s c m t) (state nc nm))
        → (t : List ℕ) → Settles (table h s c m t) (state nc nm) (Some k) (table h' s' c' m' t)
    unfolding holding
    settle_new e g t = record { answer = rw (← en, ← ek, le-ltb k n new, ← eb, e); memory = rw (← en, ← ek, le-ltb k n new, ← eb, e) (g t) }
