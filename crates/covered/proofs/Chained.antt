-- Chains of links: where every transition stands on its parent's chain, a search along the chain finds it. Assumes nothing.
use mathlib.Core.Path.{◌≡◌, refl, sym, ap, ◌∙◌, subst}
use mathlib.Core.Bool.{Bool, true, false, cond, true≢false}
use mathlib.Core.Logic.{◌⊎◌, inl, inr, ◌≢◌}
use mathlib.Core.List.{List}
use Prim.Native.Nat.{ℕ, zero, suc, ◌+◌, ◌-◌, ◌≤◌, ◌<◌}
use native.Mathlib.Omega.{arith}
use borrow.Author.Tests.{lt-ltb, le-leb}
use Rattle.theory.proofs.Lists.{and_both}
use Rattle.selector.specs.Tags.{Tags}
use Rattle.table.specs.Tables.{next_link}
use Rattle.table.specs.Entering.{leads, is_hit, cached_from, last_from}
use Rattle.table.proofs.Chains.{leads_some, leads_below}
use Rattle.covered.proofs.Known.{below}

-- the chain from link l comes to transition k; a link is a transition's number plus one
pub data On (next : ℕ → ℕ) (k : ℕ) : ℕ → Type 0 where
  here : {l : ℕ} → l ≡ k + 1 → On next k l
  further : {l : ℕ} → 1 ≤ l → On next k (next (l - 1)) → On next k l

-- links lead on to later transitions only
abbrev pub Onward : ℕ → (ℕ → ℕ) → Type 0
Onward count next = (k : ℕ) → k < count → (next k ≡ 0) ⊎ ((k + 1 < next k) × (next k ≤ count))

-- and each transition is on its parent's chain
pub record Chained (states count : ℕ) (first next parent : ℕ → ℕ) : Type 0 where
  pub starts : (p : ℕ) → p < states → first p ≤ count
  pub rises : Onward count next
  pub on : (k : ℕ) → k < count → On next k (first (parent k))

module _ {next : ℕ → ℕ} {k : ℕ} where
  pub on_some : {l : ℕ} → On next k l → 1 ≤ l
  on_some (here e) = omega arith
  on_some (further h o) = h

  -- from j on to k
  pub on_then : {j l : ℕ} → On next j l → On next k (next j) → On next k l
  on_then {j} {l} (here e) o = let z : j ≡ l - 1 = omega arith in further {l = l} (omega arith) (subst (λ (i : ℕ). On next k (next i)) z o)
  on_then (further h r) o = further h (on_then r o)

-- links that led nowhere may lead on
pub on_more : {count k : ℕ} {next next' : ℕ → ℕ}
    → Onward count next
    → ((i : ℕ) → i < count → (next i ≡ 0) ⊎ (next' i ≡ next i))
    → {l : ℕ} → l ≤ count → On next k l → On next' k l
on_more rises same b (here e) = here e
on_more {k = k} {next' = next'} rises same {l} b (further h o) = elim (same (l - 1) (omega arith)) [
  | inl z ↦ absurd (omega (arith, on_some o))
  | inr q ↦ elim (rises (l - 1) (omega arith)) [
    | inl z ↦ absurd (omega (arith, on_some o))
    | inr r ↦ further h (subst (On next' k) (sym q) (on_more rises same r.1 o))
  ]
]

-- ---- none, a state more, a transition more

pub chained_none : {states : ℕ} {first next parent : ℕ → ℕ} → ((p : ℕ) → p < states → first p ≡ 0) → Chained states 0 first next parent
chained_none none = record { starts = λ p h. omega (arith, none p h); rises = λ k h. absurd (omega arith); on = λ k h. absurd (omega arith) }

module _ {states count : ℕ} {first first' next parent : ℕ → ℕ} (c : Chained states count first next parent) (parents : (k : ℕ) → k < count → parent k < states) where
  pub chained_state : ((p : ℕ) → p < states → first' p ≡ first p) → first' states ≡ 0 → Chained (states + 1) count first' next parent
  chained_state same new = record {
    starts = λ p h. elim (below p states h) [ inl l ↦ rw (same p l) (c.starts p l) | inr q ↦ rw (q, new) (omega arith) ];
    rises = c.rises;
    on = λ k h. rw (same (parent k) (parents k h)) (c.on k h);
  }

  module _ {next' parent' : ℕ → ℕ} where
    pub chained_more : ((p : ℕ) → p < states → (first p ≡ 0) ⊎ (first' p ≡ first p))
        → ((p : ℕ) → p < states → first' p ≤ count + 1)
        → ((k : ℕ) → k < count → (next k ≡ 0) ⊎ (next' k ≡ next k))
        → Onward (count + 1) next'
        → ((k : ℕ) → k < count → parent' k ≡ parent k)
        → On next' count (first' (parent' count))
        → Chained states (count + 1) first' next' parent'
    chained_more firsts starts' nexts rises' same new = record {
      starts = starts';
      rises = rises';
      on = λ k h. elim (below k count h) [ inl l ↦ rw (same k l) (old k l) | inr q ↦ rw q new ];
    }
      where
        old : (k : ℕ) → k < count → On next' k (first' (parent k))
        old k h = elim (firsts (parent k) (parents k h)) [
          | inl z ↦ absurd (omega (arith, on_some (c.on k h)))
          | inr q ↦ rw q (on_more c.rises nexts (c.starts (parent k) (parents k h)) (c.on k h))
        ]

-- ---- along a chain

leads_is : (count l : ℕ) → 1 ≤ l → l ≤ count → leads count l ≡ true
unfolding leads
leads_is count l g h = and_both _ _ (lt-ltb 0 l g) (le-leb l count h)

leads_none : (count : ℕ) → leads count 0 ≡ false
unfolding leads
leads_none count = refl

either_some : {a b : ℕ} (c : Bool) → a ≢ 0 → b ≢ 0 → cond c a b ≢ 0
either_some true f g = f
either_some false f g = g

-- no link but 0 leads nowhere
pub leads_not : (count l : ℕ) → l ≤ count → leads count l ≡ false → l ≡ 0
leads_not count zero h e = refl
leads_not count (suc l) h e = absurd (true≢false (sym (leads_is count (suc l) (omega arith) h) ∙ e))

module _ (transitions : List ℕ) (count : ℕ) (rises : Onward count (next_link transitions)) where
  abbrev Next : ℕ → ℕ
  Next = next_link transitions

  -- the last link leads nowhere on, and the chain comes to it
  pub record Last (l last : ℕ) : Type 0 where
    pub some : 1 ≤ last
    pub within : last ≤ count
    pub ends : next_link transitions (last - 1) ≡ 0
    pub comes : On (next_link transitions) (last - 1) l

  pub last_is : (l left : ℕ) → leads count l ≡ true → count ≤ l + left → Last l (last_from transitions count l left)
  unfolding last_from
  last_is l zero e h =
      let g = leads_some count l (leads count l) refl e in
      let b = leads_below count l (leads count l) refl e in
      record { some = g; within = b; ends = elim (rises (l - 1) (omega arith)) [ inl z ↦ z | inr r ↦ absurd (omega (arith, r.0, r.1)) ]; comes = here {l = l} (omega arith) }
  last_is l (suc left) e h =
      let g = leads_some count l (leads count l) refl e in
      let b = leads_below count l (leads count l) refl e in
      elim (rises (l - 1) (omega arith)) [
        | inl z ↦ rw (ap (leads count) z ∙ leads_none count) (record { some = g; within = b; ends = z; comes = here {l = l} (omega arith) })
        | inr r ↦
            let on = leads_is count (Next (l - 1)) (omega (arith, r.0)) r.1 in
            let rest = last_is (Next (l - 1)) left on (omega (arith, r.0)) in
            rw on (record { some = rest.some; within = rest.within; ends = rest.ends; comes = further g rest.comes })
      ]

  -- a hit on the chain is found, or one before it
  pub on_found : (p : ℕ) (x : Tags) (k l left : ℕ) → is_hit transitions p x k ≡ true → On (next_link transitions) k l → l ≤ count → count < l + left → cached_from transitions count p x l left ≢ 0
  unfolding cached_from
  on_found p x k l zero hit o b h = absurd (omega arith)
  on_found p x k l (suc left) hit (here e) b h =
      let z : l - 1 ≡ k = omega arith in
      rw (leads_is count l (omega arith) b, z, hit) (λ q. omega arith)
  on_found p x k l (suc left) hit (further g o) b h = elim (rises (l - 1) (omega arith)) [
    | inl z ↦ absurd (omega (arith, on_some o))
    | inr r ↦ rw (leads_is count l g b) (either_some (is_hit transitions p x (l - 1)) (λ q. omega arith) (on_found p x k (Next (l - 1)) left hit o r.1 (omega (arith, r.0))))
  ]
