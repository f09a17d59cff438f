-- Cursors: those of the root, what one of them leaves and lists, and that these are the active steps of its rule. Assumes nothing.
use mathlib.Core.Path.{◌≡◌, ap₂, subst}
use mathlib.Core.Logic.Iff
use mathlib.Core.Logic.{◌⊎◌, inl, inr, ◌↔◌}
use mathlib.Core.Bool.{Bool, ◌&&◌, not}
use mathlib.Core.List.Memᴰ
use mathlib.Core.List.{List, [], ◌∷◌, flat_map}
use Prim.Native.Nat.{ℕ, zero, suc, ◌+◌, ◌/◌, ◌%◌, ◌<◌}
use native.Mathlib.Omega.{arith}
use lib.ListN.{length, get_elem?}
use lib.Dec.{T, T_not, not_T, ltb, ltb→lt, lt→ltb, eqb, eqb→eq, eqb_refl}
use Rattle.theory.specs.Lists.{◌∈◌, Ascending, only}
use Rattle.theory.specs.Paths.{descendant, Selector}
use Rattle.theory.specs.States.{Sheet, rule, cursor, starts, root, descends, is_last, leaves, lists, leaves_of, lists_of}
use Rattle.theory.proofs.Lists.{append_in, flat_map_in, only_in}
use Rattle.theory.proofs.Paths.{or_iff}
use Rattle.theory.proofs.Decide.{and_T, descends_T}
use Rattle.theory.proofs.Steps.{at_below, Active}

-- ---- the root

module _ {Step : Type 0} where
  starts_to : (r : ℕ) (sheet : Sheet Step) (c : ℕ) → c ∈ starts r sheet → (j : ℕ) × (0 < length (rule sheet j)) × (c ≡ cursor (r + j) 0)
  starts_to r [] c h = absurd (Memᴰ.not-nil h)
  starts_to r ([] ∷ sheet) c h = let (j, l, e) = starts_to (suc r) sheet c h in (suc j, l, omega arith)
  starts_to r ((p ∷ sel) ∷ sheet) c h = elim (Memᴰ.cases_cons h) [
    | inl e ↦ (0, omega arith, omega arith)
    | inr m ↦ let (j, l, e) = starts_to (suc r) sheet c m in (suc j, l, omega arith)
  ]

  starts_from : (r : ℕ) (sheet : Sheet Step) (j c : ℕ) → 0 < length (rule sheet j) → c ≡ cursor (r + j) 0 → c ∈ starts r sheet
  starts_from r [] j c l e = absurd (omega arith)
  starts_from r ([] ∷ sheet) zero c l e = absurd (omega arith)
  starts_from r ([] ∷ sheet) (suc j) c l e = starts_from (suc r) sheet j c l (omega arith)
  starts_from r ((p ∷ sel) ∷ sheet) zero c l e = Memᴰ.head {x = cursor r 0} (omega arith)
  starts_from r ((p ∷ sel) ∷ sheet) (suc j) c l e = Memᴰ.tail (starts_from (suc r) sheet j c l (omega arith))

  pub starts_ascending : (r : ℕ) (sheet : Sheet Step) → Ascending (starts r sheet)
  starts_ascending r [] = tt
  starts_ascending r ([] ∷ sheet) = starts_ascending (suc r) sheet
  starts_ascending r ((p ∷ sel) ∷ sheet) = (λ b m. let (j, l, e) = starts_to (suc r) sheet b m in omega arith, starts_ascending (suc r) sheet)

  -- The root has the first step of each rule with steps, and no other
  pub root_in : (sheet : Sheet Step) (r i : ℕ) → i < 8 → (cursor r i ∈ (root sheet).cursors) ↔ ((i ≡ 0) × (0 < length (rule sheet r)))
  root_in sheet r i b = (
    λ h. let (j, l, e) = starts_to 0 sheet (cursor r i) h in let same : j ≡ r = omega arith in (omega arith, rw same at l),
    λ h. starts_from 0 sheet r (cursor r i) h.1 (omega (arith, h.0)),
  )

-- ---- a list of cursors, by rule and step

-- what members of a list of cursors give
pub cursors_in_lem : (f : ℕ → List ℕ) (l : List ℕ) (c : ℕ) → (c ∈ flat_map f l) ↔ ((r : ℕ) × (i : ℕ) × (i < 8) × (cursor r i ∈ l) × (c ∈ f (cursor r i)))
cursors_in_lem f l c = (
  λ h.
      let (n, m, k) = (flat_map_in f l c).0 h in
      let e : n ≡ cursor (n / 8) (n % 8) = omega arith in
      (n / 8, n % 8, omega arith, subst (λ (a : ℕ). a ∈ l) e m, subst (λ (a : ℕ). c ∈ f a) e k),
  λ h. let (r, i, b, m, k) = h in (flat_map_in f l c).1 (cursor r i, m, k),
)

module _ {Step Subject : Type 0} (ok : Step → Subject → Bool) (sheet : Sheet Step) (x : Subject) (r i : ℕ) (b : i < 8) where
  pub leaves_cursor : leaves_of ok sheet x (cursor r i) ≡ leaves ok (get_elem? (rule sheet r) i) (is_last (rule sheet r) i) x r i
  leaves_cursor = ap₂ (λ (n k : ℕ). leaves ok (get_elem? (rule sheet n) k) (is_last (rule sheet n) k) x n k) {x = cursor r i / 8} {u = cursor r i % 8} (omega arith) (omega arith)

  pub lists_cursor : lists_of ok sheet x (cursor r i) ≡ lists ok (get_elem? (rule sheet r) i) (is_last (rule sheet r) i) x r
  lists_cursor = ap₂ (λ (n k : ℕ). lists ok (get_elem? (rule sheet n) k) (is_last (rule sheet n) k) x n) {x = cursor r i / 8} {u = cursor r i % 8} (omega arith) (omega arith)

-- ---- one cursor

-- a number alone, if two tests pass
both_in : (s t : Bool) (n c : ℕ) → (c ∈ only (s && t) n) ↔ (T s × T t × (c ≡ n))
both_in s t n c = (
  λ h. let (st, e) = (only_in (s && t) n c).0 h in let (a, b) = (and_T s t).0 st in (a, b, e),
  λ h. let (a, b, e) = h in (only_in (s && t) n c).1 ((and_T s t).1 (a, b), e),
)

last_T : {Step : Type 0} (sel : Selector Step) (i : ℕ) → T (is_last sel i) ↔ (suc i ≡ length sel)
last_T sel i = (eqb→eq (suc i) (length sel), λ e. subst (λ (n : ℕ). T (eqb (suc i) n)) e (eqb_refl (suc i)))

more_T : {Step : Type 0} (sel : Selector Step) (i : ℕ) → i < length sel → T (not (is_last sel i)) ↔ (suc i < length sel)
more_T sel i b = (
  λ n. let other : suc i ≡ length sel → ⊥ = λ e. T_not (is_last sel i) n ((last_T sel i).1 e) in omega arith,
  λ l. not_T (is_last sel i) (λ t. omega (arith, (last_T sel i).0 t)),
)

and_iff : {A B C A' B' C' : Type 0} → A ↔ A' → B ↔ B' → C ↔ C' → (A × B × C) ↔ (A' × B' × C')
and_iff f g h = (λ t. (f.0 t.0, g.0 t.1, h.0 t.2), λ t. (f.1 t.0, g.1 t.1, h.1 t.2))

module _ {Step Subject : Type 0} (ok : Step → Subject → Bool) (sel : Selector Step) (path : List Subject) (x : Subject) where
  -- what the cursor at an active step leaves: itself, after a descendant combinator; the next step, where it is ok and not the last
  pub leaves_in : (r i : ℕ) (a : Active ok sel i path) (c : ℕ)
      → (c ∈ leaves ok (get_elem? sel i) (is_last sel i) x r i)
      ↔ (((0 < i) × (a.part.comb ≡ descendant) × (c ≡ cursor r i)) ⊎ (T (ok a.part.step x) × (suc i < length sel) × (c ≡ cursor r (suc i))))
  leaves_in r i a c =
      let p = a.part in
      let keep = both_in (ltb 0 i) (descends p.comb) (cursor r i) c in
      let next = both_in (ok p.step x) (not (is_last sel i)) (cursor r (suc i)) c in
      rw a.is (Iff.trans
      (append_in (only (ltb 0 i && descends p.comb) (cursor r i)) (only (ok p.step x && not (is_last sel i)) (cursor r (suc i))) c)
      (or_iff
      (Iff.trans keep (and_iff (ltb→lt 0 i, lt→ltb 0 i) (descends_T p.comb) Iff.rfl))
      (Iff.trans next (and_iff Iff.rfl (more_T sel i (at_below sel i p a.is)) Iff.rfl))))

  -- what it lists: its rule, where it is ok and the last
  pub lists_in : (r i : ℕ) (a : Active ok sel i path) (c : ℕ) → (c ∈ lists ok (get_elem? sel i) (is_last sel i) x r) ↔ (T (ok a.part.step x) × (suc i ≡ length sel) × (c ≡ r))
  lists_in r i a c = rw a.is (Iff.trans (both_in (ok a.part.step x) (is_last sel i) r c) (and_iff Iff.rfl (last_T sel i) Iff.rfl))
