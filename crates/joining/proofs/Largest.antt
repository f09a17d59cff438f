-- Laws of the largest of a list, and of a sheet's source indexes. Assumes nothing.
use mathlib.Core.Path.{◌≡◌, refl, sym, ◌∙◌}
use mathlib.Core.Bool.{Bool, true, false, cond, not, ◌&&◌}
use mathlib.Core.List.{List, [], ◌∷◌, ◌++◌, map}
use mathlib.Core.Logic.{inl, inr}
use Prim.Native.Nat.{ℕ, zero, suc, ◌+◌, ◌≤◌, ◌<◌, max}
use native.Mathlib.Omega.{arith}
use lib.Dec.{ltb, leb, eqb}
use borrow.Author.Tests.{lt-ltb, le-ltb, le-leb, lt-leb, ne_eqb}
use Rattle.theory.specs.Lists.{at_most, spread}
use Rattle.theory.proofs.Lists.{le_or_lt}
use Rattle.theory.proofs.Spreads.{map_spread, spread_snoc}
use Rattle.lent.specs.Pool.{ends_in}
use Rattle.sheet.specs.Layout
use Rattle.sheet.specs.Sheets.{is_nil, style_at, rule_at, sheet_of}
use Rattle.given.specs.Pushing.{indexes_of, indexes_over, largest}

-- ---- the larger of two

abbrev larger : ℕ → ℕ → ℕ
larger a b = cond (ltb a b) b a

larger_left : (a b : ℕ) → b ≤ a → larger a b ≡ a
larger_left a b h = rw (le-ltb a b h)

larger_right : (a b : ℕ) → a < b → larger a b ≡ b
larger_right a b h = rw (lt-ltb a b h)

-- it is at least both, and at most what both are
above_both : (a b : ℕ) → (a ≤ larger a b) × (b ≤ larger a b)
above_both a b = elim (le_or_lt b a) [
  | inl l ↦ rw (le-ltb a b l) (omega arith, l)
  | inr l ↦ rw (lt-ltb a b l) (omega arith, omega arith)
]

below_both : (a b c : ℕ) → a ≤ c → b ≤ c → larger a b ≤ c
below_both a b c h g = elim (le_or_lt b a) [ inl l ↦ rw (le-ltb a b l) h | inr l ↦ rw (lt-ltb a b l) g ]

larger_assoc : (a b c : ℕ) → larger a (larger b c) ≡ larger (larger a b) c
larger_assoc a b c =
    let p = above_both a b in
    let q = above_both b c in
    let r = above_both (larger a b) c in
    let s = above_both a (larger b c) in
    let d = below_both a (larger b c) (larger (larger a b) c) (omega arith) (below_both b c (larger (larger a b) c) (omega arith) (omega arith)) in
    let e = below_both (larger a b) c (larger a (larger b c)) (below_both a b (larger a (larger b c)) (omega arith) (omega arith)) (omega arith) in
    omega (arith, d, e)

-- what `max` answers
larger_max : (a b : ℕ) → max a b ≡ larger a b
larger_max a b = elim (le_or_lt b a) [ inl l ↦ rw (le-ltb a b l) (omega arith) | inr l ↦ rw (lt-ltb a b l) (omega arith) ]

-- ---- the largest of a list

largest_one : (a : ℕ) → largest (a ∷ []) ≡ a
unfolding largest
largest_one a = larger_left a 0 (omega arith)

largest_append : (l m : List ℕ) → largest (l ++ m) ≡ larger (largest l) (largest m)
unfolding largest
largest_append [] m = elim (le_or_lt (largest m) 0) [ inl h ↦ (let e : largest m ≡ 0 = omega arith in rw e) | inr h ↦ sym (larger_right 0 (largest m) h) ]
largest_append (a ∷ l) m = rw (largest_append l m) (larger_assoc a (largest l) (largest m))

-- a walk along n numbers, at k
pub record Most (f : ℕ → ℕ) (n k most : ℕ) : Type 0 where
  pub within : k ≤ n
  pub same : most ≡ largest (spread f 0 k)

pub most_start : {f : ℕ → ℕ} {n : ℕ} → Most f n 0 0
unfolding largest
most_start = record { within = omega arith; same = refl }

module _ {f : ℕ → ℕ} {n k most : ℕ} (m : Most f n k most) where
  most_more : largest (spread f 0 (k + 1)) ≡ larger most (f k)
  most_more =
      let z : 0 + k ≡ k = omega arith in
      rw (spread_snoc f 0 k, z, largest_append (spread f 0 k) (f k ∷ []), largest_one (f k), ← m.same)

  -- x is the next number
  pub most_next : (x : ℕ) → k < n → x ≡ f k → Most f n (k + 1) (max most x)
  most_next x h e = record { within = omega arith; same = rw e (larger_max most (f k)) ∙ sym most_more }

  pub most_end : n ≤ k → most ≡ largest (spread f 0 n)
  most_end h = let e : n ≡ k = omega (arith, m.within) in rw e m.same

-- ---- a sheet's source indexes: two columns

pub indexes_are : (v : List ℕ) → indexes_of (sheet_of v)
    ≡ spread (ends_in v Layout.STYLE-SOURCE Layout.STYLE-WORDS) 0 (Layout.styles_in v) ++ spread (ends_in v Layout.RULE-SOURCE Layout.RULE-WORDS) 0 (Layout.rules_in v)
unfolding sheet_of style_at rule_at
indexes_are v = rw (map_spread (λ d. d.source) (style_at v) 0 (Layout.styles_in v), map_spread (λ r. r.source) (rule_at v) 0 (Layout.rules_in v))

module _ (v : List ℕ) (a b x y : ℕ)
    (e : a ≡ largest (spread (ends_in v Layout.STYLE-SOURCE Layout.STYLE-WORDS) 0 x))
    (f : b ≡ largest (spread (ends_in v Layout.RULE-SOURCE Layout.RULE-WORDS) 0 y))
    (g : x ≡ Layout.styles_in v) (h : y ≡ Layout.rules_in v) where
  both : largest (indexes_of (sheet_of v)) ≡ larger a b
  both = rw (e, f, g, h, indexes_are v) (largest_append _ _)

  pub index_is : (r : ℕ) → r ≡ max a b → r ≡ largest (indexes_of (sheet_of v))
  index_is r h = h ∙ larger_max a b ∙ sym both

spread_none : (f g : ℕ → ℕ) (m n : ℕ) → m ≡ 0 → eqb n 0 ≡ is_nil (spread f 0 m ++ spread g 0 n)
spread_none f g zero zero e = refl
spread_none f g zero (suc n) e = ne_eqb (suc n) 0 (λ q. omega arith)
spread_none f g (suc m) n e = absurd (omega arith)

spread_some : (f : ℕ → ℕ) (m : ℕ) (l : List ℕ) → (m ≡ 0 → ⊥) → false ≡ is_nil (spread f 0 m ++ l)
spread_some f zero l h = absurd (h refl)
spread_some f (suc m) l h = refl

module _ (v : List ℕ) (x : ℕ) (e : x ≡ Layout.styles_in v) where
  pub bare_not : (x ≡ 0 → ⊥) → false ≡ is_nil (indexes_of (sheet_of v))
  bare_not h = rw (indexes_are v) (spread_some _ (Layout.styles_in v) _ (λ z. h (e ∙ z)))

  pub bare_rules : x ≡ 0 → (y : ℕ) → y ≡ Layout.rules_in v → eqb y 0 ≡ is_nil (indexes_of (sheet_of v))
  bare_rules z y f = rw (indexes_are v, f) (spread_none _ _ (Layout.styles_in v) (Layout.rules_in v) (sym e ∙ z))

-- ---- raised by k, over a limit or not

and_same : (a : Bool) → (a && true) ≡ a
and_same true = refl
and_same false = refl

both_within : (limit a b : ℕ) → (leb a limit && leb b limit) ≡ leb (larger a b) limit
both_within limit a b = elim (le_or_lt b a) [
  | inl l ↦ rw (le-ltb a b l) (elim (le_or_lt a limit) [ inl h ↦ rw (le-leb a limit h, le-leb b limit (omega arith)) | inr h ↦ rw (lt-leb a limit h) ])
  | inr l ↦ rw (lt-ltb a b l) (elim (le_or_lt b limit) [ inl h ↦ rw (le-leb b limit h, le-leb a limit (omega arith)) | inr h ↦ (rw (lt-leb b limit h) (and_none (leb a limit))) ])
]
  where
    and_none : (t : Bool) → (t && false) ≡ false
    and_none true = refl
    and_none false = refl

larger_raised : (k a b : ℕ) → k + larger a b ≡ larger (k + a) (k + b)
larger_raised k a b = elim (le_or_lt b a) [
  | inl l ↦ rw (le-ltb a b l, le-ltb (k + a) (k + b) (omega arith))
  | inr l ↦ rw (lt-ltb a b l, lt-ltb (k + a) (k + b) (omega arith))
]

pub raised_within : (limit k x : ℕ) (l : List ℕ) → at_most limit (map (λ y. k + y) (x ∷ l)) ≡ leb (k + largest (x ∷ l)) limit
unfolding at_most largest
raised_within limit k x [] = rw (le-ltb x 0 (omega arith)) (and_same (leb (k + x) limit))
raised_within limit k x (y ∷ l) = rw (raised_within limit k y l, larger_raised k x (largest (y ∷ l))) (both_within limit (k + x) (k + largest (y ∷ l)))

leb_not : (a b : ℕ) → not (leb a b) ≡ ltb b a
leb_not a b = elim (le_or_lt a b) [ inl l ↦ rw (le-leb a b l, le-ltb b a l) | inr l ↦ rw (lt-leb a b l, lt-ltb b a l) ]

none_over : (limit k : ℕ) (l : List ℕ) → is_nil l ≡ true → not (at_most limit (map (λ y. k + y) l)) ≡ false
unfolding at_most
none_over limit k [] e = refl
none_over limit k (x ∷ l) e = cc

some_over : (limit k : ℕ) (l : List ℕ) → is_nil l ≡ false → not (at_most limit (map (λ y. k + y) l)) ≡ ltb limit (k + largest l)
some_over limit k [] e = cc
some_over limit k (x ∷ l) e = rw (raised_within limit k x l) (leb_not (k + largest (x ∷ l)) limit)

module _ (w v : List ℕ) (b : Bool) (e : b ≡ is_nil (indexes_of (sheet_of v))) where
  pub over_none : b ≡ true → false ≡ indexes_over w v
  unfolding indexes_over
  over_none t = sym (none_over 65535 (Layout.next_in w) (indexes_of (sheet_of v)) (sym e ∙ t))

  pub over_some : b ≡ false → (x x₀ y y₀ : ℕ) → x ≡ x₀ → x₀ ≡ Layout.next_in w → y ≡ y₀ → y₀ ≡ largest (indexes_of (sheet_of v)) → ltb 65535 (x + y) ≡ indexes_over w v
  unfolding indexes_over
  over_some t x x₀ y y₀ f₀ f g₀ g = rw (f₀, f, g₀, g) (sym (some_over 65535 (Layout.next_in w) (indexes_of (sheet_of v)) (sym e ∙ t)))
