-- "Comparing two keys answers -1, 0 or 1, and exchanging the sides negates it", of the answers that the contract allows. Assumes nothing.
use mathlib.Core.Path.{◌≡◌, sym, ap, ◌∙◌}
use mathlib.Core.Logic.{◌⊎◌, inl, inr, ◌↔◌}
use lib.IntN.{ℤ, pos, negsuc, neg_ℤ}
use Rattle.theory.specs.Cascade.{compare_keys}
use Rattle.theory.proofs.Keys.{keys_sign, keys_cases, keys_zero, keys_refl}
use Rattle.keys.specs.declared.CascadeEntryKey.{CascadeEntryKey}
use Rattle.keys.specs.Keys.{key_from}

module _ (a b : CascadeEntryKey) (r : ℤ) (e : r ≡ compare_keys (key_from a) (key_from b)) where
  -- -1, 0 or 1
  pub three_ways : (r ≡ negsuc 0) ⊎ ((r ≡ pos 0) ⊎ (r ≡ pos 1))
  three_ways = rw e (keys_cases (key_from a) (key_from b))

  -- at zero exactly the equal keys
  pub zero_equal : (r ≡ pos 0) ↔ (key_from a ≡ key_from b)
  zero_equal = (λ h. keys_zero (key_from a) (key_from b) (sym e ∙ h), λ h. rw (e, h) (keys_refl (key_from b)))

  -- s with the sides exchanged
  module _ (s : ℤ) (f : s ≡ compare_keys (key_from b) (key_from a)) where
    pub exchanged : s ≡ neg_ℤ r
    exchanged = f ∙ keys_sign (key_from a) (key_from b) ∙ ap neg_ℤ (sym e)

    -- around zero: -1 here is 1 there, and the other way round
    pub below_above : (r ≡ negsuc 0) ↔ (s ≡ pos 1)
    below_above = (λ h. exchanged ∙ ap neg_ℤ h, λ h. back r three_ways (sym exchanged ∙ h))
      where
        back : (z : ℤ) → (z ≡ negsuc 0) ⊎ ((z ≡ pos 0) ⊎ (z ≡ pos 1)) → neg_ℤ z ≡ pos 1 → z ≡ negsuc 0
        back z (inl h) q = h
        back z (inr (inl h)) q = cc
        back z (inr (inr h)) q = cc
