-- The theorem of the matcher: after a path, the rules listed are those whose selector fits a tail of the path. Assumes nothing.
use mathlib.Core.Path.{◌≡◌, refl, sym, ap, subst}
use mathlib.Core.Logic.Iff
use mathlib.Core.Logic.{◌⊎◌, inl, inr, ◌↔◌}
use mathlib.Core.Bool.{Bool}
use mathlib.Core.List.Memᴰ
use mathlib.Core.List.{List, [], ◌∷◌, ◌++◌, foldl-append, flat_map}
use Prim.Native.Nat.{ℕ, zero, suc, ◌<◌}
use native.Mathlib.Omega.{arith}
use native.Mathlib.Decide.{dec_lt}
use lib.ListN.{length, get_or-eq_default}
use Rattle.theory.specs.Lists.{◌∈◌, Ascending, select}
use Rattle.theory.specs.Paths.{descendant, Part, Selector, FitsTail}
use Rattle.theory.specs.Level3.{Represents}
use Rattle.theory.specs.Reading.{chain_of, element_of}
use Rattle.theory.specs.States.{Sheet, rule, Small, cursor, State, root, leaves_of, lists_of, enter, run}
use Rattle.theory.specs.Tails.{fits_tail}
use Rattle.theory.proofs.Lists.{append_in, sort_in, sort_ascending, ascending_select, snoc_induction}
use Rattle.theory.proofs.Paths.{fits_nil}
use Rattle.theory.proofs.Level3.{represents_tail}
use Rattle.theory.proofs.Decide.{fits_tail_T}
use Rattle.theory.proofs.Steps.{Active, active_first, active_nil, active_snoc, fits_takes}
use Rattle.theory.proofs.Cursors.{starts_ascending, root_in, cursors_in_lem, leaves_cursor, lists_cursor, leaves_in, lists_in}

module _ {Step Subject : Type 0} (ok : Step → Subject → Bool) (sheet : Sheet Step) where
  -- The state after a path with one more subject: that subject entered in the state after the path
  pub run_snoc : (path : List Subject) (x : Subject) → run ok sheet (path ++ x ∷ []) ≡ enter ok sheet (run ok sheet path) x
  unfolding run
  run_snoc path x = foldl-append (enter ok sheet) (root sheet) path (x ∷ [])

  -- The cursors that are tested when the next subject is entered: the state's and the root's
  abbrev pub tested : List Subject → List ℕ
  tested path = (run ok sheet path).cursors ++ (root sheet).cursors

  -- The invariant: they are at the active steps
  abbrev pub Invariant : List Subject → Type 0
  Invariant path = (r i : ℕ) → i < 8 → (cursor r i ∈ tested path) ↔ Active ok (rule sheet r) i path

  -- ---- one more subject

  active_cast : {r r' i i' : ℕ} {path : List Subject} → r ≡ r' → i ≡ i' → Active ok (rule sheet r) i path → Active ok (rule sheet r') i' path
  active_cast er ei a = rw (er, ei) at a

  active_kept : (r i : ℕ) (path : List Subject) (x : Subject) (a : Active ok (rule sheet r) i path) → 0 < i → a.part.comb ≡ descendant → Active ok (rule sheet r) i (path ++ x ∷ [])
  active_kept r zero path x a h d = absurd (omega arith)
  active_kept r (suc i) path x a h d = (active_snoc ok (rule sheet r) i path x).1 (inl (a, d))

  module _ (small : Small sheet) (path : List Subject) (inv : Invariant path) (x : Subject) where
    entered_to : (r i : ℕ) → i < 8 → cursor r i ∈ (enter ok sheet (run ok sheet path) x).cursors → (0 < i) × Active ok (rule sheet r) i (path ++ x ∷ [])
    unfolding enter
    entered_to r i b h =
        let (s, j, l, m, k) = (cursors_in_lem (leaves_of ok sheet x) (tested path) (cursor r i)).0 ((sort_in (flat_map (leaves_of ok sheet x) (tested path)) (cursor r i)).0 h) in
        let a : Active ok (rule sheet s) j path = (inv s j l).0 m in
        elim ((leaves_in ok (rule sheet s) path x s j a (cursor r i)).0 (rw (leaves_cursor ok sheet x s j l) at k)) [
          | inl (t, d, e) ↦ (omega arith, active_cast {r = s} {i = j} (omega arith) (omega arith) (active_kept s j path x a t d))
          | inr (o, n, e) ↦
              let top : suc j < 8 = omega (arith, small s) in
              (omega arith, active_cast {r = s} {i = suc j} (omega arith) (omega arith) ((active_snoc ok (rule sheet s) j path x).1 (inr (n, (a, o)))))
        ]

    entered_from_lem : (r i : ℕ) → i < 8 → (0 < i) × Active ok (rule sheet r) i (path ++ x ∷ []) → cursor r i ∈ (enter ok sheet (run ok sheet path) x).cursors
    unfolding enter
    entered_from_lem r zero b (h, a) = absurd (omega arith)
    entered_from_lem r (suc i) b (h, a) =
        (sort_in (flat_map (leaves_of ok sheet x) (tested path)) (cursor r (suc i))).1 ((cursors_in_lem (leaves_of ok sheet x) (tested path) (cursor r (suc i))).1
        (elim ((active_snoc ok (rule sheet r) i path x).0 a) [
          | inl (s, d) ↦
              (r, suc i, b, (inv r (suc i) b).1 s, rw (leaves_cursor ok sheet x r (suc i) b) ((leaves_in ok (rule sheet r) path x r (suc i) s (cursor r (suc i))).1 (inl (h, d, refl))))
          | inr (l, (s, o)) ↦
              let b' : i < 8 = omega arith in
              (r, i, b', (inv r i b').1 s, rw (leaves_cursor ok sheet x r i b') ((leaves_in ok (rule sheet r) path x r i s (cursor r (suc i))).1 (inr (o, l, refl))))
        ]))

    listed_to : (r : ℕ) → r ∈ (enter ok sheet (run ok sheet path) x).matched → (0 < length (rule sheet r)) × FitsTail ok (rule sheet r) (path ++ x ∷ [])
    unfolding enter
    listed_to r h =
        let (s, j, l, m, k) = (cursors_in_lem (lists_of ok sheet x) (tested path) r).0 ((sort_in (flat_map (lists_of ok sheet x) (tested path)) r).0 h) in
        let a : Active ok (rule sheet s) j path = (inv s j l).0 m in
        let (o, n, e) = (lists_in ok (rule sheet s) path x s j a r).0 (rw (lists_cursor ok sheet x s j l) at k) in
        subst (λ (n : ℕ). (0 < length (rule sheet n)) × FitsTail ok (rule sheet n) (path ++ x ∷ [])) (sym e) ((fits_takes ok (rule sheet s) path x).1 (j, n, (a, o)))

    listed_from_lem : (r : ℕ) → (0 < length (rule sheet r)) × FitsTail ok (rule sheet r) (path ++ x ∷ []) → r ∈ (enter ok sheet (run ok sheet path) x).matched
    unfolding enter
    listed_from_lem r f =
        let (i, l, (a, o)) = (fits_takes ok (rule sheet r) path x).0 f in
        let b : i < 8 = omega (arith, small r) in
        (sort_in (flat_map (lists_of ok sheet x) (tested path)) r).1 ((cursors_in_lem (lists_of ok sheet x) (tested path) r).1
        (r, i, b, (inv r i b).1 a, rw (lists_cursor ok sheet x r i b) ((lists_in ok (rule sheet r) path x r i a r).1 (o, l, refl))))

  -- ---- every path

  root_active : (path : List Subject) (r i : ℕ) → i < 8 → cursor r i ∈ (root sheet).cursors → Active ok (rule sheet r) i path
  root_active path r i b h = let (e, l) = (root_in sheet r i b).0 h in rw e ((active_first ok (rule sheet r) path).1 l)

  active_root : (path : List Subject) (r : ℕ) → Active ok (rule sheet r) 0 path → cursor r 0 ∈ (root sheet).cursors
  active_root path r a = (root_in sheet r 0 (omega arith)).1 (refl, (active_first ok (rule sheet r) path).0 a)

  invariant_nil : Invariant []
  unfolding run
  invariant_nil r i b = (λ h. elim ((append_in (root sheet).cursors (root sheet).cursors (cursor r i)).0 h) [ inl k ↦ root_active [] r i b k | inr k ↦ root_active [] r i b k ], from i)
    where
      from : (i : ℕ) → Active ok (rule sheet r) i [] → cursor r i ∈ ((root sheet).cursors ++ (root sheet).cursors)
      from zero a = (append_in (root sheet).cursors (root sheet).cursors (cursor r 0)).1 (inl (active_root [] r a))
      from (suc i) a = absurd (active_nil ok (rule sheet r) i a)

  invariant_snoc : Small sheet → (path : List Subject) (x : Subject) → Invariant path → Invariant (path ++ x ∷ [])
  invariant_snoc small path x inv r i b =
      let s : State = enter ok sheet (run ok sheet path) x in
      let to : (cursor r i ∈ s.cursors) ⊎ (cursor r i ∈ (root sheet).cursors) → Active ok (rule sheet r) i (path ++ x ∷ []) = elim [
        | inl k ↦ (entered_to small path inv x r i b k).1
        | inr k ↦ root_active (path ++ x ∷ []) r i b k
      ] in
      rw (run_snoc path x) (λ h. to ((append_in s.cursors (root sheet).cursors (cursor r i)).0 h), λ a. (append_in s.cursors (root sheet).cursors (cursor r i)).1 (from i b a))
    where
      from : (i : ℕ) → i < 8 → Active ok (rule sheet r) i (path ++ x ∷ []) → (cursor r i ∈ (enter ok sheet (run ok sheet path) x).cursors) ⊎ (cursor r i ∈ (root sheet).cursors)
      from zero b a = inr (active_root (path ++ x ∷ []) r a)
      from (suc i) b a = inl (entered_from_lem small path inv x r (suc i) b (omega arith, a))

  -- After every path the cursors tested next are at the active steps
  pub invariant : Small sheet → (path : List Subject) → Invariant path
  invariant small = snoc_induction Invariant invariant_nil (invariant_snoc small)

  -- The cursors of a state below the root, exactly: the active steps that are not their rule's first
  pub cursors_are : Small sheet → (path : List Subject) (x : Subject) (r i : ℕ) → i < 8
      → (cursor r i ∈ (run ok sheet (path ++ x ∷ [])).cursors) ↔ ((0 < i) × Active ok (rule sheet r) i (path ++ x ∷ []))
  cursors_are small path x r i b = rw (run_snoc path x) (entered_to small path (invariant small path) x r i b, entered_from_lem small path (invariant small path) x r i b)

  -- The cursors of a state are strictly ascending
  pub cursors_ascending : (path : List Subject) → Ascending (run ok sheet path).cursors
  unfolding run enter
  cursors_ascending = snoc_induction (λ (path : List Subject). Ascending (run ok sheet path).cursors) (starts_ascending 0 sheet)
      (λ path x _. rw (run_snoc path x) (sort_ascending (flat_map (leaves_of ok sheet x) (tested path))))

  -- The rules listed are strictly ascending
  pub matched_ascending : (path : List Subject) → Ascending (run ok sheet path).matched
  unfolding run enter
  matched_ascending = snoc_induction (λ (path : List Subject). Ascending (run ok sheet path).matched) tt
      (λ path x _. rw (run_snoc path x) (sort_ascending (flat_map (lists_of ok sheet x) (tested path))))

  root_lists_none : (r : ℕ) → (r ∈ (run ok sheet []).matched) ↔ ((0 < length (rule sheet r)) × FitsTail ok (rule sheet r) [])
  unfolding run
  root_lists_none r = (λ h. absurd (Memᴰ.not-nil h), λ f. absurd (none (rule sheet r) f.0 f.1))
    where
      none : (sel : Selector Step) → 0 < length sel → FitsTail ok sel [] → ⊥
      none [] h f = omega arith
      none (p ∷ sel) h f = fits_nil ok p sel f

  -- After a path, a rule is listed exactly if its selector has steps and fits a tail of the path
  pub listed_iff : Small sheet → (path : List Subject) (r : ℕ) → (r ∈ (run ok sheet path).matched) ↔ ((0 < length (rule sheet r)) × FitsTail ok (rule sheet r) path)
  listed_iff small path r = snoc_induction (λ (path : List Subject). (r ∈ (run ok sheet path).matched) ↔ ((0 < length (rule sheet r)) × FitsTail ok (rule sheet r) path)) (root_lists_none r)
      (λ path x _. rw (run_snoc path x) (listed_to small path (invariant small path) x r, listed_from_lem small path (invariant small path) x r))
      path

  -- The list itself, as a function of the sheet and the path alone: the rules that pass the test, ascending
  pub matched_is : Small sheet → (path : List Subject) → (run ok sheet path).matched ≡ select (λ r. fits_tail ok (rule sheet r) path) (length sheet)
  matched_is small path = ascending_select (λ r. fits_tail ok (rule sheet r) path) (length sheet) (run ok sheet path).matched (matched_ascending path)
      (λ r. let law = Iff.trans (listed_iff small path r) (Iff.symm (fits_tail_T ok (rule sheet r) path)) in
      (λ h. (below r (dec_lt r (length sheet)) ((listed_iff small path r).0 h).0, law.0 h), λ h. law.1 h.1))
    where
      below : (r : ℕ) → Dec (r < length sheet) → 0 < length (rule sheet r) → r < length sheet
      below r (yes h) l = h
      below r (no h) l =
          let e : rule sheet r ≡ [] = get_or-eq_default sheet [] (omega arith) in
          absurd (omega (arith, ap length e))

  -- After a path of one or more elements, a rule is listed exactly if, by Level 3, its selector represents the last element
  pub listed_represents : Small sheet → (r : ℕ) (p : Part Step) (sel : Selector Step) → rule sheet r ≡ p ∷ sel → (x : Subject) (path : List Subject)
      → (r ∈ (run ok sheet (x ∷ path)).matched) ↔ Represents ok (chain_of p sel) (element_of x path)
  listed_represents small r p sel e x path =
      let law : (r ∈ (run ok sheet (x ∷ path)).matched) ↔ ((0 < length (p ∷ sel)) × FitsTail ok (p ∷ sel) (x ∷ path)) = rw e at (listed_iff small (x ∷ path) r) in
      let same = represents_tail ok p sel x path in
      (λ h. same.1 (law.0 h).1, λ h. law.1 (omega arith, same.0 h))
