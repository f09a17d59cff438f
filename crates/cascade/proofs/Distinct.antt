-- Equal numbers told are equal answers, so that the contracts determine answer and memory. Assumes nothing.
use mathlib.Core.Path.{◌≡◌, refl, sym, ◌∙◌}
use mathlib.Core.List.{List, [], ◌∷◌}
use Prim.Native.Nat.{ℕ}
use lib.ListN.{get_or}
use Rattle.std.specs.Prelude.{Result}
use Rattle.lent.specs.Refusals.{answered}
use Rattle.lent.specs.declared.Refusal.{Refusal}
use Rattle.lent.proofs.Refusals.{answer_distinct}
use Rattle.table.specs.Tables.{Table}
use Rattle.channels.specs.Channels.{channels_of}
use Rattle.changeset.specs.Sets.{Lists}
use Rattle.changeset.proofs.Distinct.{lists_determined}
use Rattle.changes.specs.Changes.{resource_dependent}
use Rattle.cascade.specs.Calls.{changed_in, pair_verdict, changed_verdict, resource_verdict}
use Rattle.cascade.specs.Answers.{channels_told}
use Rattle.channels.specs.declared.ChannelSet.{ChannelSet}

set_from : List ℕ → ChannelSet
set_from l = record { 0 = get_or l 0 0 }

pub channels_distinct : (a b : Result ChannelSet Refusal) → channels_told a ≡ channels_told b → a ≡ b
unfolding set_from
channels_distinct = answer_distinct _ set_from (λ c. refl)

-- ---- THEOREM: any two outcomes that a call's contract allows are equal, answer and memory

module _ (w : List ℕ) (t : Table) (old oldStamp new newStamp : ℕ) where
  pub changed_determined : {out u u' : List ℕ} {r r' : Result ℕ Refusal} → Lists (changed_verdict w t old oldStamp new newStamp out) (changed_in w t old new) out r u
      → Lists (changed_verdict w t old oldStamp new newStamp out) (changed_in w t old new) out r' u' → (r ≡ r') × (u ≡ u')
  changed_determined p q = lists_determined p q

  pub channels_determined : (masks : List ℕ) {r r' : Result ChannelSet Refusal}
      → channels_told r ≡ answered (pair_verdict w t old oldStamp new newStamp) (0 ∷ channels_of masks (changed_in w t old new) ∷ [])
      → channels_told r' ≡ answered (pair_verdict w t old oldStamp new newStamp) (0 ∷ channels_of masks (changed_in w t old new) ∷ [])
      → r ≡ r'
  channels_determined masks {r} {r'} e f = channels_distinct r r' (e ∙ sym f)

pub resources_determined : (w : List ℕ) {out u u' : List ℕ} {r r' : Result ℕ Refusal} → Lists (resource_verdict w out) (resource_dependent w) out r u
    → Lists (resource_verdict w out) (resource_dependent w) out r' u' → (r ≡ r') × (u ≡ u')
resources_determined w p q = lists_determined p q
