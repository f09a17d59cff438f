-- One rule: which of its steps are active after a path, and how one more subject changes that. Assumes nothing.
use mathlib.Core.Path.{◌≡◌, refl, sym, ap, ◌∙◌, subst}
use mathlib.Core.Logic.{◌⊎◌, inl, inr, ◌↔◌}
use mathlib.Core.Bool.{Bool}
use mathlib.Core.Option.{some}
use mathlib.Core.List.{List, [], ◌∷◌, ◌++◌}
use Prim.Native.Nat.{ℕ, zero, suc, ◌<◌}
use native.Mathlib.Omega.{arith}
use lib.ListN.{take, length, get_elem?}
use lib.Seq.{take_all}
use lib.Dec.{T}
use Rattle.theory.specs.Paths.{descendant, Part, Selector, FitsTail}
use Rattle.theory.proofs.Paths.{Waits, fits_snoc, waits_snoc, waits_nil}

-- ---- the element at an index, if there is one

module _ {A : Type 0} where
  pub at_below : (l : List A) (i : ℕ) (a : A) → get_elem? l i ≡ some a → i < length l
  at_below [] i a e = absurd (let z : ◌≡◌ {A = ℕ} 0 1 = cc in omega arith)
  at_below (b ∷ l) zero a e = omega arith
  at_below (b ∷ l) (suc i) a e = omega (arith, at_below l i a e)

  pub at_some : (l : List A) (i : ℕ) → i < length l → (a : A) × (get_elem? l i ≡ some a)
  at_some [] i h = absurd (omega arith)
  at_some (b ∷ l) zero h = (b, refl)
  at_some (b ∷ l) (suc i) h = at_some l i (omega arith)

  at_take : (l : List A) (i : ℕ) (a : A) → get_elem? l i ≡ some a → take (suc i) l ≡ take i l ++ a ∷ []
  at_take [] i a e = absurd (let z : ◌≡◌ {A = ℕ} 0 1 = cc in omega arith)
  at_take (b ∷ l) zero a e = let s : b ≡ a = cc in rw s
  at_take (b ∷ l) (suc i) a e = ap (λ (m : List A). b ∷ m) (at_take l i a e)

  at_last : (l : List A) (i : ℕ) (a : A) → suc i ≡ length l → get_elem? l i ≡ some a → l ≡ take i l ++ a ∷ []
  at_last l i a h e = sym (take_all (suc i) l (omega arith)) ∙ at_take l i a e

module _ {Step Subject : Type 0} (ok : Step → Subject → Bool) where
  -- Step i is active after the path: it is there, and has what it waits for
  pub record Active (sel : Selector Step) (i : ℕ) (path : List Subject) : Type 0 where
    pub part : Part Step
    pub is : get_elem? sel i ≡ some part
    pub waits : Waits ok (take i sel) part.comb path

  -- Step i is active, and stays so whatever comes
  abbrev pub Stays : Selector Step → ℕ → List Subject → Type 0
  Stays sel i path = (a : Active sel i path) × (a.part.comb ≡ descendant)

  -- Step i is active, and is ok at x
  abbrev pub Takes : Selector Step → ℕ → List Subject → Subject → Type 0
  Takes sel i path x = (a : Active sel i path) × T (ok a.part.step x)

  -- The first step is active after every path
  pub active_first : (sel : Selector Step) (path : List Subject) → Active sel 0 path ↔ (0 < length sel)
  active_first sel path = (λ a. at_below sel 0 a.part a.is, λ h. let (q, e) = at_some sel 0 h in record { part = q; is = e; waits = tt })

  -- At the root no other step is active
  pub active_nil : (sel : Selector Step) (i : ℕ) → Active sel (suc i) [] → ⊥
  active_nil [] i a = absurd (omega (arith, at_below [] (suc i) a.part a.is))
  active_nil (p ∷ sel) i a = waits_nil ok p (take i sel) a.part.comb a.waits

  -- A step after the first is active after one more subject if it was and stays so, or if the step before it takes the subject
  pub active_snoc : (sel : Selector Step) (i : ℕ) (path : List Subject) (x : Subject)
      → Active sel (suc i) (path ++ x ∷ []) ↔ (Stays sel (suc i) path ⊎ ((suc i < length sel) × Takes sel i path x))
  active_snoc sel i path x = (to, from)
    where
      to : Active sel (suc i) (path ++ x ∷ []) → Stays sel (suc i) path ⊎ ((suc i < length sel) × Takes sel i path x)
      to a =
          let below = at_below sel (suc i) a.part a.is in
          let (q, e) = at_some sel i (omega arith) in
          elim ((waits_snoc ok (take i sel) q a.part.comb path x).0 (rw (at_take sel i q e) at a.waits)) [
            | inl h ↦ inl (record { part = a.part; is = a.is; waits = rw (at_take sel i q e) h.1 }, h.0)
            | inr h ↦ inr (below, (record { part = q; is = e; waits = h.1 }, h.0))
          ]

      from : Stays sel (suc i) path ⊎ ((suc i < length sel) × Takes sel i path x) → Active sel (suc i) (path ++ x ∷ [])
      from (inl (a, d)) =
          let below = at_below sel (suc i) a.part a.is in
          let (q, e) = at_some sel i (omega arith) in
          let law = waits_snoc ok (take i sel) q a.part.comb path x in
          record { part = a.part; is = a.is; waits = rw (at_take sel i q e) (law.1 (inl (d, rw (at_take sel i q e) at a.waits))) }
      from (inr (h, (a, o))) =
          let (q, e) = at_some sel (suc i) h in
          record { part = q; is = e; waits = rw (at_take sel i a.part a.is) ((waits_snoc ok (take i sel) a.part q.comb path x).1 (inr (o, a.waits))) }

  -- A selector with steps fits a tail of the path with one more subject if its last step takes that
  pub fits_takes : (sel : Selector Step) (path : List Subject) (x : Subject)
      → ((0 < length sel) × FitsTail ok sel (path ++ x ∷ [])) ↔ ((i : ℕ) × (suc i ≡ length sel) × Takes sel i path x)
  fits_takes [] path x = (λ f. absurd (omega arith), λ h. absurd (omega (arith, h.1)))
  fits_takes (p ∷ sel) path x = (to, from)
    where
      to : (0 < length (p ∷ sel)) × FitsTail ok (p ∷ sel) (path ++ x ∷ []) → (i : ℕ) × (suc i ≡ length (p ∷ sel)) × Takes (p ∷ sel) i path x
      to f =
          let (q, e) = at_some (p ∷ sel) (length sel) (omega arith) in
          let whole = at_last (p ∷ sel) (length sel) q refl e in
          let h = (fits_snoc ok (take (length sel) (p ∷ sel)) q path x).0 (subst (λ (s : Selector Step). FitsTail ok s (path ++ x ∷ [])) whole f.1) in
          (length sel, refl, (record { part = q; is = e; waits = h.1 }, h.0))

      from : ((i : ℕ) × (suc i ≡ length (p ∷ sel)) × Takes (p ∷ sel) i path x) → (0 < length (p ∷ sel)) × FitsTail ok (p ∷ sel) (path ++ x ∷ [])
      from (i, l, (a, o)) =
          let whole = at_last (p ∷ sel) i a.part l a.is in
          (omega arith, subst (λ (s : Selector Step). FitsTail ok s (path ++ x ∷ [])) (sym whole) ((fits_snoc ok (take i (p ∷ sel)) a.part path x).1 (o, a.waits)))
