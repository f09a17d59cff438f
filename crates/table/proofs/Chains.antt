-- What a chain of cached transitions leads to. Assumes nothing.
use mathlib.Core.Path.{◌≡◌, refl, sym, ◌∙◌}
use mathlib.Core.Logic.{◌⊎◌, inl, inr, ◌≢◌}
use mathlib.Core.Bool.{Bool, true, false, cond}
use mathlib.Core.List.{List}
use Prim.Native.Nat.{ℕ, zero, suc, ◌-◌, ◌≤◌}
use lib.Dec.{ltb}
use borrow.Author.Tests.{ltb-true, leb-true}
use Rattle.theory.proofs.Lists.{and_left, and_right}
use Rattle.selector.specs.Tags.{Tags}
use Rattle.table.specs.Tables.{next_link}
use Rattle.table.specs.Entering.{leads, is_hit, cached_from}

-- a link that leads to a transition is its number plus one
module _ (count l : ℕ) (b : Bool) (e : b ≡ leads count l) (t : b ≡ true) where
  pub leads_some : 1 ≤ l
  unfolding leads
  leads_some = ltb-true 0 l (and_left _ _ (sym e ∙ t))

  pub leads_below : l ≤ count
  unfolding leads
  leads_below = leb-true l count (and_right (ltb 0 l) _ (sym e ∙ t))

-- one link of a chain: it leads to a hit, or the rest answers
chain_step : (leading hit : Bool) (l rest k : ℕ) → cond leading (cond hit l rest) 0 ≡ k → k ≢ 0
    → ((l ≡ k) × (leading ≡ true) × (hit ≡ true)) ⊎ (rest ≡ k)
chain_step true true l rest k e n = inl (e, refl, refl)
chain_step true false l rest k e n = inr e
chain_step false hit l rest k e n = absurd (n (sym e))

-- a link that is found leads to a transition of this parent and subject
pub cached_hit : (transitions : List ℕ) (count p : ℕ) (x : Tags) (l left k : ℕ) → cached_from transitions count p x l left ≡ k → k ≢ 0
    → (leads count k ≡ true) × (is_hit transitions p x (k - 1) ≡ true)
unfolding cached_from
cached_hit transitions count p x l zero k e n = absurd (n (sym e))
cached_hit transitions count p x l (suc left) k e n =
    elim (chain_step (leads count l) (is_hit transitions p x (l - 1)) l (cached_from transitions count p x (next_link transitions (l - 1)) left) k e n) [
      | inl h ↦ rw (← h.0) (h.1, h.2)
      | inr f ↦ cached_hit transitions count p x (next_link transitions (l - 1)) left k f n
    ]
