-- The keys that are read out of a sheet's columns. Assumes nothing.
use mathlib.Core.Path.{◌≡◌}
use mathlib.Core.List.{List}
use Prim.Native.Nat.{ℕ}
use lib.IntN.{ℤ}
use Rattle.theory.specs.Cascade.{Key, key_numbers, compare_keys}
use Rattle.theory.specs.Lists.{compare}
use Rattle.theory.specs.Weight.{no_weight}
use Rattle.lent.specs.Pool.{ends_in}
use Rattle.sheet.specs.Layout
use Rattle.sheet.specs.Sheets.{key_of, direct, listed, style_at, rule_at, weight_for}
use Rattle.weighed.specs.Weighing.{weight_from}
use Rattle.keys.specs.declared.CascadeEntryKey.{CascadeEntryKey}
use Rattle.keys.specs.Keys.{key_from}

module _ (w : List ℕ) (n : ℕ) (k : CascadeEntryKey) where
  pub style_keyed : k.origin ≡ ends_in w Layout.STYLE-ORIGIN Layout.STYLE-WORDS n → weight_from k.specificity ≡ no_weight → k.source_index ≡ ends_in w Layout.STYLE-SOURCE Layout.STYLE-WORDS n → k.order ≡ 0
      → (ranking : ℕ) → key_from k ≡ key_of ranking (direct (style_at w n))
  unfolding style_at
  style_keyed a b c d ranking = rw (a, b, c, d)

  pub rule_keyed : (ranking : ℕ) → k.origin ≡ ends_in w Layout.RULE-ORIGIN Layout.RULE-WORDS n → weight_from k.specificity ≡ weight_for ranking (rule_at w n)
      → k.source_index ≡ ends_in w Layout.RULE-SOURCE Layout.RULE-WORDS n → k.order ≡ ends_in w Layout.RULE-ORDER Layout.RULE-WORDS n → key_from k ≡ key_of ranking (listed (rule_at w n))
  unfolding rule_at
  rule_keyed ranking a b c d = rw (a, b, c, d)

-- what compares the numbers compares the keys
pub keys_compared : (a b : Key) (l m : List ℕ) (z : ℤ) → l ≡ key_numbers a → m ≡ key_numbers b → z ≡ compare l m → z ≡ compare_keys a b
unfolding compare_keys
keys_compared a b l m z e f g = rw (g, e, f)
