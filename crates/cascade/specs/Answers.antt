-- What the calls answer, as numbers: 0 and what is told, or a refusal's own number. Assumes nothing.
use Rattle.std.specs.Prelude.{List, [], ◌∷◌, ℕ, Result}
use Rattle.lent.specs.Refusals.{answer_told}
use Rattle.lent.specs.declared.Refusal.{Refusal}
use Rattle.channels.specs.declared.ChannelSet.{ChannelSet}

abbrev pub channels_told : Result ChannelSet Refusal → List ℕ
channels_told r = answer_told (λ c. c.0 ∷ []) r
