-- The elements of a list that pass a test; and the winning key, by those who hold the property alone. Assumes nothing.
use mathlib.Core.Path.{◌≡◌, refl, sym, ap, ◌∙◌}
use mathlib.Core.Logic.{inl, inr, ◌↔◌}
use mathlib.Core.Bool.{Bool, true, false, cond}
use mathlib.Core.Option.{map}
use mathlib.Core.List.Memᴰ
use mathlib.Core.List.{List, [], ◌∷◌, ◌++◌}
use Prim.Native.Nat.{ℕ, suc, ◌≤◌}
use native.Mathlib.Omega.{arith}
use lib.ListN.{length}
use lib.Dec.{T}
use Rattle.theory.specs.Lists.{◌∈◌, Ascending}
use Rattle.theory.specs.Cascade.{Key, winner, winning_key, against}
use Rattle.theory.proofs.Lists.{T-is}
use Rattle.theory.proofs.Winners.{winning_key_unique}
use Rattle.changes.specs.Asked.{keep}

module _ {A : Type 0} (f : A → Bool) where
  pub keep_in : (l : List A) (c : A) → (c ∈ keep f l) ↔ ((c ∈ l) × T (f c))
  unfolding keep
  keep_in [] c = (λ h. absurd (Memᴰ.not-nil h), λ h. absurd (Memᴰ.not-nil h.0))
  keep_in (a ∷ l) c = at (f a) refl (keep_in l c)
    where
      at : (b : Bool) → f a ≡ b → ((c ∈ keep f l) ↔ ((c ∈ l) × T (f c))) → (c ∈ cond b (a ∷ keep f l) (keep f l)) ↔ ((c ∈ (a ∷ l)) × T (f c))
      at true e i = (
        λ h. elim (Memᴰ.cases_cons h) [ inl q ↦ (Memᴰ.head q, rw q ((T-is (f a)).1 e)) | inr k ↦ (Memᴰ.tail (i.0 k).0, (i.0 k).1) ],
        λ h. elim (Memᴰ.cases_cons h.0) [ inl q ↦ Memᴰ.head q | inr k ↦ Memᴰ.tail (i.1 (k, h.1)) ],
      )
      at false e i = (
        λ h. (Memᴰ.tail (i.0 h).0, (i.0 h).1),
        λ h. elim (Memᴰ.cases_cons h.0) [ inl q ↦ let z : T false = rw (q, e) at h.1 in absurd z | inr k ↦ i.1 (k, h.1) ],
      )

  pub keep_append : (l m : List A) → keep f (l ++ m) ≡ keep f l ++ keep f m
  unfolding keep
  keep_append [] m = refl
  keep_append (a ∷ l) m = rw (keep_append l m) (at (f a))
    where
      at : (b : Bool) → cond b (a ∷ (keep f l ++ keep f m)) (keep f l ++ keep f m) ≡ cond b (a ∷ keep f l) (keep f l) ++ keep f m
      at true = refl
      at false = refl

pub keep_length : (f : ℕ → Bool) (l : List ℕ) → length (keep f l) ≤ length l
unfolding keep
keep_length f [] = omega arith
keep_length f (a ∷ l) = at (f a) (keep_length f l)
  where
    at : (b : Bool) → length (keep f l) ≤ length l → length (cond b (a ∷ keep f l) (keep f l)) ≤ suc (length l)
    at true i = omega arith
    at false i = omega arith

pub keep_ascending : (f : ℕ → Bool) (l : List ℕ) → Ascending l → Ascending (keep f l)
unfolding keep
keep_ascending f [] p = tt
keep_ascending f (a ∷ l) p = at (f a) (keep_ascending f l p.1)
  where
    at : (b : Bool) → Ascending (keep f l) → Ascending (cond b (a ∷ keep f l) (keep f l))
    at true i = (λ c h. p.0 c ((keep_in f l c).0 h).0, i)
    at false i = i

module _ {Source : Type 0} (key : Source → ℕ → Key) (holds : Source → ℕ → Bool) where
  -- those who do not hold the property do not count
  winner_holders : (l : List Source) (p : ℕ) → winner key holds (keep (λ s. holds s p) l) p ≡ winner key holds l p
  unfolding winner keep
  winner_holders [] p = refl
  winner_holders (s ∷ l) p = at (holds s p) refl (winner_holders l p)
    where
      at : (b : Bool) → holds s p ≡ b → winner key holds (keep (λ t. holds t p) l) p ≡ winner key holds l p
          → winner key holds (cond b (s ∷ keep (λ t. holds t p) l) (keep (λ t. holds t p) l)) p ≡ cond b (against key holds p s (winner key holds l p)) (winner key holds l p)
      at true e i = rw (e, i)
      at false e i = i

  -- the same sources among those who hold the property: the same winning key
  pub winning_key_holders : (l m : List Source) (p : ℕ) → ((s : Source) → T (holds s p) → s ∈ l ↔ s ∈ m) → winning_key key holds l p ≡ winning_key key holds m p
  winning_key_holders l m p e =
      let f : Source → Bool = λ s. holds s p in
      ap (map (λ s. key s p)) (sym (winner_holders l p))
      ∙ winning_key_unique key holds (keep f l) (keep f m) p (λ s. (
        λ h. let i = (keep_in f l s).0 h in (keep_in f m s).1 ((e s i.1).0 i.0, i.1),
        λ h. let i = (keep_in f m s).0 h in (keep_in f l s).1 ((e s i.1).1 i.0, i.1),
      ))
      ∙ ap (map (λ s. key s p)) (winner_holders m p)
