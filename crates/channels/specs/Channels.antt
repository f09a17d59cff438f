-- Channels: 01, "Weight, winners, changes". A mask names the channels that its bits are. Assumes nothing.
use Rattle.std.specs.Prelude.{◌≡◌, refl, true, List, [], ◌∷◌, ℕ, get_or, Option, Some, None}
use Rattle.std.specs.Int.Bits.{bit_or}
use Rattle.theory.specs.Lists.{◌∈◌, select}
use Rattle.bits.specs.Bits.{bit, bits_in}

-- "The channel set is the union of the u32 masks of the changed properties, from a lent table by id; past its end the mask is 0"
unfoldable pub channels_of : List ℕ → List ℕ → ℕ
channels_of masks [] = 0
channels_of masks (p ∷ ids) = bit_or (get_or masks p 0) (channels_of masks ids)

-- What such a set names: some changed property has a mask with bit k
abbrev pub Named : List ℕ → List ℕ → ℕ → Type 0
Named masks ids k = (p : ℕ) × (p ∈ ids) × (bit (get_or masks p 0) k ≡ true)

-- "Report .. which is lowest; with none there is no lowest": 1 and the channel, or 0
abbrev pub lowest_told : Option ℕ → List ℕ
lowest_told (Some k) = 1 ∷ k ∷ []
lowest_told None = 0 ∷ []

abbrev pub lowest_of : List ℕ → List ℕ
lowest_of [] = 0 ∷ []
lowest_of (k ∷ l) = 1 ∷ k ∷ []

-- ---- for example: property 1 has no mask, property 0 names channels 0 and 2, property 2 channels 1 and 2

sample : bits_in (channels_of (5 ∷ 0 ∷ 6 ∷ []) (0 ∷ 2 ∷ 9 ∷ [])) ≡ 0 ∷ 1 ∷ 2 ∷ []
unfolding bits_in channels_of select bit
sample = refl
