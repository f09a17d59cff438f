-- The winner of a property: what the definition says of it, that the order of the sources does not matter where equal keys are equal sources, and loops from the left. Assumes nothing.
use mathlib.Core.Path.{◌≡◌, refl, sym, ap, ◌∙◌}
use mathlib.Core.Logic.{◌⊎◌, inl, inr, ◌≢◌, ◌↔◌}
use mathlib.Core.Bool.{Bool, true, false, cond, true≢false}
use mathlib.Core.Option.{Option, none, some, map}
use mathlib.Core.List.Memᴰ
use mathlib.Core.List.{List, [], ◌∷◌, ◌++◌}
use Prim.Native.Nat.{ℕ, zero, suc, ◌<◌}
use native.Mathlib.Omega.{arith}
use native.Mathlib.Decide.{dec_lt}
use lib.ListN.{get_elem?}
use lib.Dec.{T}
use lib.IntN.{pos, negsuc, pos-ne-negsuc}
use Rattle.theory.specs.Lists.{◌∈◌}
use Rattle.theory.specs.Cascade.{Key, compare_keys, is_one, Wins, against, winner, winning_key}
use Rattle.theory.proofs.Lists.{T-is}
use Rattle.theory.proofs.Keys.{keys_refl, keys_below, keys_above, keys_trans, keys_not_above, keys_cases, keys_zero, one_is, one_not}

-- ---- cases

option_cases : {A : Type 0} (o : Option A) → (o ≡ none) ⊎ ((a : A) × (o ≡ some a))
option_cases none = inl refl
option_cases (some a) = inr (a, refl)

nobody : {A : Type 0} (a : A) → ◌≡◌ {A = Option A} none (some a) → ⊥
nobody a e = let z : ◌≡◌ {A = ℕ} 0 1 = cc in omega arith

-- a member is one at some position
pub at_in : {A : Type 0} (l : List A) (j : ℕ) (a : A) → get_elem? l j ≡ some a → a ∈ l
at_in [] j a e = absurd (nobody a e)
at_in (b ∷ l) zero a e = let s : a ≡ b = cc in Memᴰ.head s
at_in (b ∷ l) (suc j) a e = Memᴰ.tail (at_in l j a e)

in_at : {A : Type 0} (l : List A) (a : A) → a ∈ l → (j : ℕ) × (get_elem? l j ≡ some a)
in_at [] a h = absurd (Memᴰ.not-nil h)
in_at (b ∷ l) a h = elim (Memᴰ.cases_cons h) [ inl e ↦ (0, ap some (sym e)) | inr k ↦ let i = in_at l a k in (suc i.0, i.1) ]

-- who stands at a position of s ∷ l
at_cases : {A : Type 0} (s : A) (l : List A) (j : ℕ) (t : A) → get_elem? (s ∷ l) j ≡ some t → (t ≡ s) ⊎ ((k : ℕ) × (j ≡ suc k) × (get_elem? l k ≡ some t))
at_cases s l zero t e = inl (cc)
at_cases s l (suc k) t e = inr (k, refl, e)

module _ {Source : Type 0} (key : Source → ℕ → Key) (holds : Source → ℕ → Bool) where
  -- ---- what the winner is

  -- nobody holds the property, or s wins it
  abbrev Answer : List Source → ℕ → Option Source → Type 0
  Answer l p none = (j : ℕ) (t : Source) → get_elem? l j ≡ some t → T (holds t p) → ⊥
  Answer l p (some s) = Wins key holds l p s

  not_held : (s t : Source) (p : ℕ) → holds s p ≡ false → t ≡ s → T (holds t p) → ⊥
  not_held s t p n e h = let z : true ≡ false = sym ((T-is (holds t p)).0 h) ∙ rw e n in true≢false z

  not_above_self : (s t : Source) (p : ℕ) → t ≡ s → compare_keys (key t p) (key s p) ≢ pos 1
  not_above_self s t p e = rw e ((one_not _).0 (rw (keys_refl (key s p))))

  -- s before the others, if it does not hold the property
  skip : (s : Source) (l : List Source) (p : ℕ) (o : Option Source) → holds s p ≡ false → Answer l p o → Answer (s ∷ l) p o
  skip s l p none n a = λ j t i h. elim (at_cases s l j t i) [ inl e ↦ not_held s t p n e h | inr k ↦ a k.0 t k.2 h ]
  skip s l p (some w) n a = record {
    at = suc a.at;
    is = a.is;
    has = a.has;
    greatest = λ j t i h. elim (at_cases s l j t i) [ inl e ↦ absurd (not_held s t p n e h) | inr k ↦ a.greatest k.0 t k.2 h ];
    earliest = λ j t b i h. elim (at_cases s l j t i) [ inl e ↦ absurd (not_held s t p n e h) | inr k ↦ let m = k.1 in a.earliest k.0 t (omega arith) k.2 h ];
  }

  -- if it does, and w wins among the others: b says whether w has a greater key
  over : (s : Source) (l : List Source) (p : ℕ) (w : Source) (b : Bool) → is_one (compare_keys (key w p) (key s p)) ≡ b → T (holds s p) → Wins key holds l p w
      → Answer (s ∷ l) p (cond b (some w) (some s))
  over s l p w true e y a = record {
    at = suc a.at;
    is = a.is;
    has = a.has;
    greatest = λ j t i h. elim (at_cases s l j t i) [ inl q ↦ λ c. pos-ne-negsuc 1 0 (sym c ∙ first t q) | inr k ↦ a.greatest k.0 t k.2 h ];
    earliest = λ j t b i h. elim (at_cases s l j t i) [ inl q ↦ first t q | inr k ↦ let m = k.1 in a.earliest k.0 t (omega arith) k.2 h ];
  }
    where
      first : (t : Source) → t ≡ s → compare_keys (key t p) (key w p) ≡ negsuc 0
      first t q = rw q (keys_above (key w p) (key s p) ((one_is _).0 e))
  over s l p w false e y a = record {
    at = 0;
    is = refl;
    has = y;
    greatest = λ j t i h. elim (at_cases s l j t i) [
      | inl q ↦ not_above_self s t p q
      | inr k ↦ keys_not_above (key t p) (key w p) (key s p) (a.greatest k.0 t k.2 h) ((one_not _).0 e)
    ];
    earliest = λ j t b i h. absurd (omega arith);
  }

  -- if it does, whatever the answer among the others
  lead : (s : Source) (l : List Source) (p : ℕ) (o : Option Source) → T (holds s p) → Answer l p o → Answer (s ∷ l) p (against key holds p s o)
  lead s l p none y a = record {
    at = 0;
    is = refl;
    has = y;
    greatest = λ j t i h. elim (at_cases s l j t i) [ inl q ↦ not_above_self s t p q | inr k ↦ absurd (a k.0 t k.2 h) ];
    earliest = λ j t b i h. absurd (omega arith);
  }
  lead s l p (some w) y a = over s l p w _ refl y a

  winner_is : (l : List Source) (p : ℕ) → Answer l p (winner key holds l p)
  unfolding winner
  winner_is [] p = λ j t i h. nobody t i
  winner_is (s ∷ l) p = at (holds s p) refl (winner_is l p)
    where
      at : (b : Bool) → holds s p ≡ b → Answer l p (winner key holds l p) → Answer (s ∷ l) p (cond b (against key holds p s (winner key holds l p)) (winner key holds l p))
      at true e a = lead s l p (winner key holds l p) ((T-is (holds s p)).1 e) a
      at false e a = skip s l p (winner key holds l p) e a

  -- two winners of the same sources are one: the one that stands first
  wins_once : (l : List Source) (p : ℕ) (s t : Source) → Wins key holds l p s → Wins key holds l p t → s ≡ t
  wins_once l p s t a b = elim (dec_lt a.at b.at) [
    | yes h ↦ absurd (apart s t a b h)
    | no h ↦ elim (dec_lt b.at a.at) [
      | yes g ↦ absurd (apart t s b a g)
      | no g ↦ let e : a.at ≡ b.at = omega arith in some_same s t (sym a.is ∙ rw e b.is)
    ]
  ]
    where
      apart : (s t : Source) (a : Wins key holds l p s) (b : Wins key holds l p t) → a.at < b.at → ⊥
      apart s t a b h = a.greatest b.at t b.is b.has (keys_below (key s p) (key t p) (b.earliest a.at s h a.is a.has))

      some_same : (s t : Source) → ◌≡◌ {A = Option Source} (some s) (some t) → s ≡ t
      some_same s t e = cc

  -- there is no winner exactly if nobody holds the property
  pub winner_none : (sources : List Source) (p : ℕ) → (winner key holds sources p ≡ none) ↔ ((j : ℕ) (t : Source) → get_elem? sources j ≡ some t → T (holds t p) → ⊥)
  winner_none l p = (
    λ e. rw e at (winner_is l p),
    λ n. elim (option_cases (winner key holds l p)) [ inl e ↦ e | inr k ↦ let w : Wins key holds l p k.0 = rw k.1 at (winner_is l p) in absurd (n w.at k.0 w.is w.has) ],
  )

  -- the winner is the first of those who hold the property with the greatest key
  pub winner_wins : (sources : List Source) (p : ℕ) (s : Source) → (winner key holds sources p ≡ some s) ↔ Wins key holds sources p s
  winner_wins l p s = (
    λ e. rw e at (winner_is l p),
    λ w. elim (option_cases (winner key holds l p)) [
      | inl e ↦ absurd ((winner_none l p).0 e w.at s w.is w.has)
      | inr k ↦ k.1 ∙ ap some (wins_once l p k.0 s (rw k.1 at (winner_is l p)) w)
    ],
  )

  -- the winner is one of the sources and holds the property
  pub winner_in_lem : (sources : List Source) (p : ℕ) (s : Source) → winner key holds sources p ≡ some s → (s ∈ sources) × T (holds s p)
  winner_in_lem l p s e = let w = (winner_wins l p s).0 e in (at_in l w.at s w.is, w.has)

  -- ---- where equal keys are equal sources, the order of the sources does not matter

  -- equal keys are equal sources, among those of the list that hold the property
  abbrev pub Told : List Source → ℕ → Type 0
  Told l p = (s t : Source) → s ∈ l → t ∈ l → T (holds s p) → T (holds t p) → compare_keys (key s p) (key t p) ≡ pos 0 → s ≡ t

  -- who holds the property and has a key that no holder's exceeds is the winner
  pub winner_greatest : (l : List Source) (p : ℕ) (s : Source) → Told l p → s ∈ l → T (holds s p)
      → ((t : Source) → t ∈ l → T (holds t p) → compare_keys (key t p) (key s p) ≢ pos 1) → winner key holds l p ≡ some s
  winner_greatest l p s u i h g = elim (option_cases (winner key holds l p)) [
    | inl e ↦ let k = in_at l s i in absurd ((winner_none l p).0 e k.0 s k.1 h)
    | inr k ↦ k.1 ∙ ap some (same k.0 ((winner_wins l p k.0).0 k.1))
  ]
    where
      same : (t : Source) → Wins key holds l p t → t ≡ s
      same t w = let m = at_in l w.at t w.is in let k = in_at l s i in elim (keys_cases (key t p) (key s p)) [
        | inl e ↦ absurd (w.greatest k.0 s k.1 h (keys_below (key t p) (key s p) e))
        | inr (inl e) ↦ u t s m i w.has h e
        | inr (inr e) ↦ absurd (g t m w.has e)
      ]

  -- the same sources in another order, or some of them twice: the same winner
  pub winner_unique : (l m : List Source) (p : ℕ) → Told l p → ((s : Source) → s ∈ l ↔ s ∈ m) → winner key holds l p ≡ winner key holds m p
  winner_unique l m p u e = elim (option_cases (winner key holds m p)) [
    | inl n ↦ (winner_none l p).1 (λ j t i h. let k = in_at m t ((e t).0 (at_in l j t i)) in (winner_none m p).0 n k.0 t k.1 h) ∙ sym n
    | inr k ↦ let w = (winner_wins m p k.0).0 k.1 in
        winner_greatest l p k.0 u ((e k.0).1 (at_in m w.at k.0 w.is)) w.has
        (λ t i h. let j = in_at m t ((e t).0 i) in w.greatest j.0 t j.1 h) ∙ sym k.1
  ]

  -- the winning key alone does not depend on the order, whether equal keys are equal sources or not
  pub winning_key_unique : (l m : List Source) (p : ℕ) → ((s : Source) → s ∈ l ↔ s ∈ m) → winning_key key holds l p ≡ winning_key key holds m p
  winning_key_unique l m p e = at (winner key holds l p) (winner key holds m p) (winner_is l p) (winner_is m p)
    where
      at : (a b : Option Source) → Answer l p a → Answer m p b → map (λ s. key s p) a ≡ map (λ s. key s p) b
      at none none f g = refl
      at none (some t) f g = let j = in_at l t ((e t).1 (at_in m g.at t g.is)) in absurd (f j.0 t j.1 g.has)
      at (some s) none f g = let j = in_at m s ((e s).0 (at_in l f.at s f.is)) in absurd (g j.0 s j.1 f.has)
      at (some s) (some t) f g =
          let i = in_at l t ((e t).1 (at_in m g.at t g.is)) in
          let j = in_at m s ((e s).0 (at_in l f.at s f.is)) in
          elim (keys_cases (key s p) (key t p)) [
            | inl c ↦ absurd (f.greatest i.0 t i.1 g.has (keys_below (key s p) (key t p) c))
            | inr (inl c) ↦ ap some (keys_zero (key s p) (key t p) c)
            | inr (inr c) ↦ absurd (g.greatest j.0 s j.1 f.has c)
          ]

  -- ---- from the left

  -- the winner of two winners, the first on equality
  abbrev pub best : ℕ → Option Source → Option Source → Option Source
  best p none o = o
  best p (some s) o = against key holds p s o

  best_none : (p : ℕ) (o : Option Source) → best p o none ≡ o
  best_none p none = refl
  best_none p (some s) = refl

  best_assoc : (p : ℕ) (x : Source) (a b : Option Source) → against key holds p x (best p a b) ≡ best p (against key holds p x a) b
  best_assoc p x none b = refl
  best_assoc p x (some s) none = sym (best_none p (against key holds p x (some s)))
  best_assoc p x (some s) (some t) = at _ _ refl refl
    where
      at : (b c : Bool) → is_one (compare_keys (key t p) (key s p)) ≡ b → is_one (compare_keys (key s p) (key x p)) ≡ c
          → against key holds p x (cond b (some t) (some s)) ≡ best p (cond c (some s) (some x)) (some t)
      at true true e f = rw (e, (one_is _).1 (keys_trans (key t p) (key s p) (key x p) ((one_is _).0 e) ((one_is _).0 f)))
      at true false e f = refl
      at false true e f = rw (e, f)
      at false false e f = rw (f, (one_not _).1 (keys_not_above (key t p) (key s p) (key x p) ((one_not _).0 e) ((one_not _).0 f)))

  -- some sources and then others: the winner of the two winners
  pub winner_append : (l m : List Source) (p : ℕ) → winner key holds (l ++ m) p ≡ best p (winner key holds l p) (winner key holds m p)
  unfolding winner
  winner_append [] m p = refl
  winner_append (x ∷ l) m p = rw (winner_append l m p) (at (holds x p))
    where
      at : (b : Bool) → cond b (against key holds p x (best p (winner key holds l p) (winner key holds m p))) (best p (winner key holds l p) (winner key holds m p))
          ≡ best p (cond b (against key holds p x (winner key holds l p)) (winner key holds l p)) (winner key holds m p)
      at true = best_assoc p x (winner key holds l p) (winner key holds m p)
      at false = refl

  -- the winner so far, then one more source: it wins if it holds the property and nobody did, or has a greater key
  abbrev pub then : ℕ → Option Source → Source → Option Source
  then p o t = cond (holds t p) (best p o (some t)) o

  -- one more source at the right end
  pub winner_snoc : (l : List Source) (t : Source) (p : ℕ) → winner key holds (l ++ t ∷ []) p ≡ then p (winner key holds l p) t
  winner_snoc l t p = winner_append l (t ∷ []) p ∙ (unfold winner in at (holds t p) (winner key holds l p))
    where
      at : (b : Bool) (o : Option Source) → best p o (cond b (some t) none) ≡ cond b (best p o (some t)) o
      at true o = refl
      at false o = best_none p o
