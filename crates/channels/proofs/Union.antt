-- The channels called for are those that a changed property's mask names. Assumes nothing.
use mathlib.Core.Path.{◌≡◌, refl, sym, ◌∙◌}
use mathlib.Core.Logic.Iff
use mathlib.Core.Logic.{inl, inr, ◌↔◌}
use mathlib.Core.Bool.{true, true≢false, or-true}
use mathlib.Core.List.Memᴰ
use mathlib.Core.List.{List, [], ◌∷◌}
use Prim.Native.Nat.{ℕ, zero, suc, ◌^◌, ◌<◌}
use lib.ListN.{get_or}
use lib.Pow.{pow_pos}
use lib.Bits.{or_lt}
use Rattle.theory.specs.Lists.{◌∈◌}
use Rattle.theory.proofs.Lists.{or_cases}
use Rattle.bits.specs.Bits.{bit, bits_in}
use Rattle.bits.proofs.Bits.{bit_or_lem, bit_zero, bits_in_lem}
use Rattle.channels.specs.Channels.{channels_of, Named}

-- THEOREM: bit k is set exactly if some changed property's mask has it
pub channel_named : (masks ids : List ℕ) (k : ℕ) → (bit (channels_of masks ids) k ≡ true) ↔ Named masks ids k
unfolding channels_of
channel_named masks [] k = (λ e. absurd (true≢false (sym e ∙ bit_zero k)), λ n. absurd (Memᴰ.not-nil n.1))
channel_named masks (q ∷ ids) k = (
  λ e. elim (or_cases (bit (get_or masks q 0) k) (bit (channels_of masks ids) k) (sym (bit_or_lem (get_or masks q 0) (channels_of masks ids) k) ∙ e)) [
    | inl a ↦ (q, Memᴰ.head refl, a)
    | inr b ↦ let n = (channel_named masks ids k).0 b in (n.0, Memᴰ.tail n.1, n.2)
  ],
  λ n. bit_or_lem (get_or masks q 0) (channels_of masks ids) k ∙ elim (Memᴰ.cases_cons n.1) [
    | inl e ↦ rw (rw e at n.2)
    | inr m ↦ rw ((channel_named masks ids k).1 (n.0, m, n.2)) (or-true (bit (get_or masks q 0) k))
  ],
)

-- ---- masks of w bits make a set of w bits

mask_below : (w : ℕ) (masks : List ℕ) → ((m : ℕ) → m ∈ masks → m < 2 ^ w) → (p : ℕ) → get_or masks p 0 < 2 ^ w
mask_below w [] h p = pow_pos w
mask_below w (m ∷ masks) h zero = h m (Memᴰ.head refl)
mask_below w (m ∷ masks) h (suc p) = mask_below w masks (λ n i. h n (Memᴰ.tail i)) p

pub channels_below : (w : ℕ) (masks ids : List ℕ) → ((m : ℕ) → m ∈ masks → m < 2 ^ w) → channels_of masks ids < 2 ^ w
unfolding channels_of
channels_below w masks [] h = pow_pos w
channels_below w masks (p ∷ ids) h = or_lt w (get_or masks p 0) (channels_of masks ids) (mask_below w masks h p) (channels_below w masks ids h)

-- THEOREM: so the channels that are counted, and of which the lowest is told, are those named
pub channel_listed : (masks ids : List ℕ) → ((m : ℕ) → m ∈ masks → m < 2 ^ 32) → (k : ℕ)
    → (k ∈ bits_in (channels_of masks ids)) ↔ Named masks ids k
channel_listed masks ids h k = Iff.trans (bits_in_lem (channels_of masks ids) k (channels_below 32 masks ids h)) (channel_named masks ids k)
