-- Following a chain of cached transitions, by each way through the code. Assumes nothing.
use mathlib.Core.Path.{◌≡◌, refl, ap, ◌∙◌}
use mathlib.Core.Bool.{Bool, true, false, cond}
use mathlib.Core.List.{List}
use Prim.Native.Nat.{ℕ, suc, ◌-◌, ◌+◌, ◌≤◌, ◌<◌}
use native.Mathlib.Omega.{arith}
use Rattle.std.specs.Prelude.{Option, Some, None}
use Rattle.selector.specs.Tags.{Tags}
use Rattle.table.specs.Tables.{transitions_in, first_link, next_link, linked}
use Rattle.table.specs.Entering.{leads, is_hit, cached_from, cached}
use Rattle.table.proofs.Chains.{leads_some}

-- what is left of the chain after `turns` of its transitions answers for the whole
pub record Following (transitions : List ℕ) (count p : ℕ) (x : Tags) (first l turns : ℕ) : Type 0 where
  pub whole : cached_from transitions count p x first count ≡ cached_from transitions count p x l (count - turns)

pub follow_start : (transitions : List ℕ) (count p : ℕ) (x : Tags) (first : ℕ) → Following transitions count p x first first 0
follow_start transitions count p x first = let e : count - 0 ≡ count = omega arith in record { whole = rw e refl }

module _ {transitions : List ℕ} {count p : ℕ} {x : Tags} {first l turns : ℕ} (w : Following transitions count p x first l turns) where
  pub follow_end : count ≤ turns → None ≡ linked (cached_from transitions count p x first count)
  unfolding cached_from linked
  follow_end h = let e : count - turns ≡ 0 = omega arith in rw (w.whole, e)

  module _ (b : Bool) (h : turns < count) (e : b ≡ leads count l) where
    follow_at : cached_from transitions count p x first count ≡ cond b (cond (is_hit transitions p x (l - 1)) l (cached_from transitions count p x (next_link transitions (l - 1)) (count - (turns + 1)))) 0
    unfolding cached_from
    follow_at = let n : count - turns ≡ suc (count - (turns + 1)) = omega arith in rw e (w.whole ∙ ap (λ (n : ℕ). cached_from transitions count p x l n) n)

    pub follow_none : b ≡ false → None ≡ linked (cached_from transitions count p x first count)
    unfolding linked
    follow_none t = rw (follow_at, t)

    module _ (t : b ≡ true) (k : ℕ) (q : k ≡ l - 1) (hit : Bool) (f : hit ≡ is_hit transitions p x k) where
      pub follow_hit : hit ≡ true → Some k ≡ linked (cached_from transitions count p x first count)
      unfolding linked
      follow_hit u = let m : l ≡ suc k = omega (arith, leads_some count l b e t) in rw (follow_at, t, ← q, ← f, u, m)

      pub follow_next : (next : ℕ) → hit ≡ false → next ≡ next_link transitions k → Following transitions count p x first next (turns + 1)
      follow_next next u g = record { whole = follow_at ∙ rw (t, ← q, ← f, u, g) }

pub ruleset following = (follow_start, follow_end, follow_none, follow_hit, follow_next)

-- the parent's own chain, over the head's count
module _ (head states transitions : List ℕ) (p count : ℕ) (e : count ≡ transitions_in head) where
  pub cached_is : (x : Tags) (first : ℕ) (r : Option ℕ) → first ≡ first_link states p → r ≡ linked (cached_from transitions count p x first count) → r ≡ linked (cached head states transitions p x)
  unfolding cached
  cached_is x first r f g = rw (e, f) at g
