-- Equal numbers told are equal answers, so that the contracts determine the answer. Assumes nothing.
use mathlib.Core.Path.{◌≡◌, refl, sym, ap, ◌∙◌}
use mathlib.Core.List.{List}
use Prim.Native.Nat.{ℕ, zero, suc}
use lib.ListN.{get_or}
use Rattle.std.specs.Prelude.{Option, Some, None}
use Rattle.bits.specs.Bits.{bits_in}
use Rattle.channels.specs.Channels.{lowest_told, lowest_of, channels_of}
use Rattle.channels.specs.declared.ChannelSet.{ChannelSet}

-- ---- read back

read_lowest : ℕ → ℕ → Option ℕ
read_lowest zero k = None
read_lowest (suc n) k = Some k

lowest_back : (r : Option ℕ) → read_lowest (get_or (lowest_told r) 0 0) (get_or (lowest_told r) 1 0) ≡ r
unfolding read_lowest
lowest_back (Some k) = refl
lowest_back None = refl

-- ---- THEOREM: any two answers that a call's contract allows are equal

pub lowest_determined : (n : ℕ) {r r' : Option ℕ} → lowest_told r ≡ lowest_of (bits_in n) → lowest_told r' ≡ lowest_of (bits_in n) → r ≡ r'
lowest_determined n {r} {r'} p q = sym (lowest_back r) ∙ ap (λ l. read_lowest (get_or l 0 0) (get_or l 1 0)) (p ∙ sym q) ∙ lowest_back r'

pub affected_determined : (masks ids : List ℕ) {r r' : ChannelSet} → r.0 ≡ channels_of masks ids → r'.0 ≡ channels_of masks ids → r ≡ r'
affected_determined masks ids p q = ap (λ (n : ℕ). record { 0 = n }) (p ∙ sym q)
