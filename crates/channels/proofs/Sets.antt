-- The answers of a channel set, by its bits. Assumes nothing.
use mathlib.Core.Path.{◌≡◌, sym, ap, ◌∙◌}
use mathlib.Core.List.{[], ◌∷◌}
use Prim.Native.Nat.{ℕ, zero, suc, ◌^◌, ◌<◌}
use native.Mathlib.Omega.{arith}
use lib.ListN.{length}
use lib.Dec.{eqb, eqb-suc-zero}
use lib.Count.{count_trailing_zeros}
use Rattle.bits.specs.Bits.{bits_in}
use Rattle.bits.proofs.Bits.{zero_bits, trailing_first}
use Rattle.channels.specs.Channels.{lowest_of}

pub empty_told : (n : ℕ) → n < 2 ^ 32 → eqb n 0 ≡ eqb (length (bits_in n)) 0
empty_told zero h = rw zero_bits
empty_told (suc n) h =
    let t = trailing_first (suc n) (omega arith) h in
    rw t.1 (eqb-suc-zero n ∙ sym (eqb-suc-zero (length t.0)))

pub lowest_none : (n : ℕ) → n ≡ 0 → 0 ∷ [] ≡ lowest_of (bits_in n)
lowest_none n e = rw (e, zero_bits)

pub lowest_some : (n : ℕ) → n < 2 ^ 32 → (n ≡ 0 → ⊥) → 1 ∷ count_trailing_zeros 32 n ∷ [] ≡ lowest_of (bits_in n)
lowest_some n h p = ap lowest_of (sym (trailing_first n (omega arith) h).1)
