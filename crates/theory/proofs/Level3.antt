-- 01's words and Level 3's say the same: a selector fits a tail of a path exactly if it represents the path's last element, and ranking 1 is the specificity. Assumes nothing.
use mathlib.Core.Path.{◌≡◌, refl, sym, ap₂, ◌∙◌}
use mathlib.Core.Logic.Iff
use mathlib.Core.Logic.{◌⊎◌, inl, inr, ◌↔◌}
use mathlib.Core.Bool.{Bool}
use mathlib.Core.List.{List, [], ◌∷◌, ◌++◌, flat_map}
use Prim.Native.Nat.{ℕ, zero, suc, ◌+◌, ◌*◌}
use native.Mathlib.Nat.{zero-mul, suc-mul}
use native.Mathlib.Omega.{arith}
use lib.ListN.{take, drop, replicate}
use lib.Seq.{take-nil}
use lib.Dec.{T}
use Rattle.theory.specs.Paths.{Comb, child, descendant, Part, Selector, Fits, FitsTail, Places}
use Rattle.theory.specs.Level3.{Chain, sequence, Element, top, under, OfAncestor, Represents, Simple, class, pseudo_class, type, pseudo_element, in_a, in_b, in_c, specificity}
use Rattle.theory.specs.Lists.{compare, total}
use Rattle.theory.specs.Weight.{Counts, weight_numbers, weight_of}
use Rattle.theory.specs.Reading.{joined, chain_from, chain_of, element_from, element_of, simples_of, simples}
use Rattle.theory.proofs.Lists.{snoc_induction}
use Rattle.theory.proofs.Paths.{Upto, upto_snoc, fits_snoc, fits_nil, waits_nil}
use Rattle.theory.proofs.Places.{fits_places}

-- ---- one more on the right of a chain, and of a path

chain_snoc : {Step : Type 0} (A : Chain Step) (sel : Selector Step) (q : Part Step) → chain_from A (sel ++ q ∷ []) ≡ joined (chain_from A sel) q.comb q.step
chain_snoc A [] q = refl
chain_snoc A (p ∷ sel) q = chain_snoc (joined A p.comb p.step) sel q

element_snoc : {Subject : Type 0} (e : Element Subject) (path : List Subject) (y : Subject) → element_from e (path ++ y ∷ []) ≡ under (element_from e path) y
element_snoc e [] y = refl
element_snoc e (x ∷ path) y = element_snoc (under e x) path y

-- F of the element or of some ancestor of it is G of some beginning of the path, where F of an element is G of the path that ends at it
module _ {Subject : Type 0} (x : Subject) (F : Element Subject → Type 0) (G : List Subject → Type 0)
    (none : G [] → ⊥) (same : (path : List Subject) → F (element_of x path) ↔ G (x ∷ path)) where
  line : (path : List Subject) → (F (element_of x path) ⊎ OfAncestor F (element_of x path)) ↔ Upto descendant G (x ∷ path)
  line = snoc_induction (λ (path : List Subject). (F (element_of x path) ⊎ OfAncestor F (element_of x path)) ↔ Upto descendant G (x ∷ path))
      (elim [ inl f ↦ (1, (same []).0 f) | inr h ↦ absurd h ], λ u. inl (alone u.0 u.1))
      (λ path y ih.
      let law = upto_snoc G (x ∷ path) y in
      let last : F (under (element_of x path) y) ↔ G (x ∷ path ++ y ∷ []) = rw (element_snoc (top x) path y) at (same (path ++ y ∷ [])) in
      rw (element_snoc (top x) path y) (
        elim [ inl f ↦ law.1 (inr (last.0 f)) | inr h ↦ law.1 (inl (ih.0 h)) ],
        λ u. elim (law.0 u) [ inl h ↦ inr (ih.1 h) | inr g ↦ inl (last.1 g) ],
      ))
    where
      alone : (k : ℕ) → G (take k (x ∷ [])) → F (top x)
      alone zero g = absurd (none g)
      alone (suc k) g = (same []).1 (rw (take-nil k) at g)

module _ {Step Subject : Type 0} (ok : Step → Subject → Bool) (p : Part Step) where
  abbrev Same : Selector Step → Subject → List Subject → Type 0
  Same sel x path = Represents ok (chain_of p sel) (element_of x path) ↔ FitsTail ok (p ∷ sel) (x ∷ path)

  -- one step: it is ok at the last element
  same_one : (x : Subject) (path : List Subject) → Same [] x path
  same_one x = snoc_induction (Same [] x) (alone [] x)
      (λ path y _. rw (element_snoc (top x) path y) (alone (x ∷ path) y))
    where
      alone : (path : List Subject) (y : Subject) → T (ok p.step y) ↔ FitsTail ok (p ∷ []) (path ++ y ∷ [])
      alone path y = let law = fits_snoc ok [] p path y in (λ t. law.1 (t, tt), λ f. (law.0 f).0)

  module _ (sel : Selector Step) (x : Subject) (same : (path : List Subject) → Same sel x path) where
    -- one more step, at the top: it has no parent
    joined_top : (c : Comb) (s : Step) → Represents ok (joined (chain_of p sel) c s) (top x) ↔ (T (ok s x) × Upto c (FitsTail ok (p ∷ sel)) [])
    joined_top child s = (λ h. absurd h.1, λ h. absurd (waits_nil ok p sel child h.1))
    joined_top descendant s = (λ h. absurd h.1, λ h. absurd (waits_nil ok p sel descendant h.1))

    -- one more step, further down
    joined_under : (c : Comb) (s : Step) (path : List Subject) (y : Subject)
        → Represents ok (joined (chain_of p sel) c s) (under (element_of x path) y) ↔ (T (ok s y) × Upto c (FitsTail ok (p ∷ sel)) (x ∷ path))
    joined_under child s path y = Iff.and Iff.rfl (same path)
    joined_under descendant s path y = Iff.and Iff.rfl (line x (Represents ok (chain_of p sel)) (FitsTail ok (p ∷ sel)) (fits_nil ok p sel) same path)

    same_more : (q : Part Step) (path : List Subject) → Same (sel ++ q ∷ []) x path
    same_more q = snoc_induction (Same (sel ++ q ∷ []) x)
        (rw (chain_snoc (sequence p.step) sel q) (Iff.trans (joined_top q.comb q.step) (Iff.symm (fits_snoc ok (p ∷ sel) q [] x))))
        (λ path y _. rw (chain_snoc (sequence p.step) sel q, element_snoc (top x) path y)
        (Iff.trans (joined_under q.comb q.step path y) (Iff.symm (fits_snoc ok (p ∷ sel) q (x ∷ path) y))))

module _ {Step Subject : Type 0} (ok : Step → Subject → Bool) where
  -- A selector represents the last element of a path, by Level 3, exactly if it fits a tail of the path, by 01
  pub represents_tail : (p : Part Step) (sel : Selector Step) (x : Subject) (path : List Subject) → Represents ok (chain_of p sel) (element_of x path) ↔ FitsTail ok (p ∷ sel) (x ∷ path)
  represents_tail p sel x = snoc_induction (λ (sel : Selector Step). (path : List Subject) → Same ok p sel x path) (same_one ok p x) (λ sel q same. same_more ok p sel x same q) sel

  -- The same by places
  pub represents_places : (p : Part Step) (sel : Selector Step) (x : Subject) (path : List Subject)
      → Represents ok (chain_of p sel) (element_of x path) ↔ ((k : ℕ) × Places ok (p ∷ sel) (drop k (x ∷ path)))
  represents_places p sel x path =
      let law = represents_tail p sel x path in
      let places : (k : ℕ) → Fits ok (p ∷ sel) (drop k (x ∷ path)) ↔ Places ok (p ∷ sel) (drop k (x ∷ path)) = λ k. fits_places ok (p ∷ sel) (drop k (x ∷ path)) in
      (λ h. let f = law.0 h in (f.0, (places f.0).0 f.1), λ h. law.1 (h.0, (places h.0).1 h.1))

-- ---- specificity

total_append : {A : Type 0} (f : A → ℕ) (l m : List A) → total f (l ++ m) ≡ total f l + total f m
unfolding total
total_append f [] m = omega arith
total_append f (s ∷ l) m = omega (arith, total_append f l m)

total_replicate : {A : Type 0} (f : A → ℕ) (n : ℕ) (s : A) → total f (replicate n s) ≡ n * f s
unfolding total
total_replicate f zero s = sym (zero-mul (f s))
total_replicate f (suc n) s = rw (suc-mul n (f s)) (omega (arith, total_replicate f n s))

-- what a step adds
total_step : (f : Simple → ℕ) (c : Counts) (l : List Simple)
    → total f (simples_of c ++ l) ≡ c.types * f type + c.classes * f class + c.pseudos * f pseudo_class + c.parts * f pseudo_element + total f l
total_step f c l = simp (total_append, total_replicate) (omega arith)

counted : (l : List Counts) → (total in_a (simples l) ≡ 0) × (total in_b (simples l) ≡ (weight_of 1 l).first) × (total in_c (simples l) ≡ (weight_of 1 l).second)
unfolding total flat_map
counted [] = (refl, omega arith, omega arith)
counted (c ∷ l) =
    let (a, b, d) = counted l in
    (omega (arith, total_step in_a c (simples l)), omega (arith, total_step in_b c (simples l)), omega (arith, total_step in_c c (simples l)))

-- Ranking 1 is Level 3's specificity: a is 0, b and c are the first two numbers of the weight
pub weight_level3 : (l : List Counts) → specificity (simples l) ≡ 0 ∷ (weight_of 1 l).first ∷ (weight_of 1 l).second ∷ []
weight_level3 l = let (a, b, c) = counted l in rw (a, b, c)

-- a 0 before two numbers, or two after them, decides nothing
padded : (f s g t : ℕ) → compare (f ∷ s ∷ 0 ∷ 0 ∷ []) (g ∷ t ∷ 0 ∷ 0 ∷ []) ≡ compare (0 ∷ f ∷ s ∷ []) (0 ∷ g ∷ t ∷ [])
unfolding compare
padded f s g t = refl

-- so that two selectors compare under ranking 1 just as Level 3 compares their specificities
pub weight_order : (l m : List Counts) → compare (weight_numbers (weight_of 1 l)) (weight_numbers (weight_of 1 m)) ≡ compare (specificity (simples l)) (specificity (simples m))
weight_order l m = padded _ _ _ _ ∙ sym (ap₂ compare (weight_level3 l) (weight_level3 m))
