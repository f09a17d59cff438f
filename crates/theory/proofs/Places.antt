-- `Fits` and `Places` say the same: a selector fits a path by steps if its steps can be given places. Assumes nothing.
use mathlib.Core.Path.{◌≡◌, refl, sym, ap, ◌∙◌, subst}
use mathlib.Core.Logic.{◌↔◌}
use mathlib.Core.Bool.{Bool}
use mathlib.Core.Option.{some}
use mathlib.Core.List.{List, [], ◌∷◌}
use Prim.Native.Nat.{ℕ, zero, suc, pred, ◌<◌, ◌≤◌}
use native.Mathlib.Omega.{arith}
use native.Mathlib.Decide.{dec_le}
use lib.ListN.{length, get_elem?}
use lib.Dec.{T}
use Rattle.theory.specs.Paths.{Comb, child, descendant, Part, Selector, Follows, Places, Goes, done, here, skip, Fits}
use Rattle.theory.proofs.Steps.{at_below, at_some}

-- ---- places of two steps, one after the other

follows_suc : (c : Comb) (a b : ℕ) → Follows c a b → Follows c (suc a) (suc b)
follows_suc child a b h = omega arith
follows_suc descendant a b h = omega arith

follows_lt : (c : Comb) (a b : ℕ) → Follows c a b → a < b
follows_lt child a b h = omega arith
follows_lt descendant a b h = h

follows_pred : (c : Comb) (a b : ℕ) → zero < a → Follows c a b → Follows c (pred a) (pred b)
follows_pred child a b l h = omega arith
follows_pred descendant a b l h = omega arith

follows_far : (c : Comb) (a b : ℕ) → suc a < b → Follows c a b → c ≡ descendant
follows_far child a b l h = absurd (omega arith)
follows_far descendant a b l h = refl

follows_next : (c : Comb) (a : ℕ) → Follows c a (suc a)
follows_next child a = omega arith
follows_next descendant a = omega arith

-- ---- the element at an index, if there is one

some_is : {A : Type 0} (a b : A) → some a ≡ some b → a ≡ b
some_is a b e = cc

at_nil : {A : Type 0} (i : ℕ) (a : A) → get_elem? [] i ≡ some a → ⊥
at_nil i a e = let z : ◌≡◌ {A = ℕ} 0 1 = cc in omega arith

cons_nil : {A : Type 0} {B : Type 0} (a : A) (l : List A) → a ∷ l ≡ [] → B
cons_nil a l e = absurd (let z : ◌≡◌ {A = ℕ} 0 1 = cc in omega arith)

at_other : {A : Type 0} (x y : A) (l : List A) (n : ℕ) → zero < n → get_elem? (x ∷ l) n ≡ get_elem? (y ∷ l) n
at_other x y l zero h = absurd (omega arith)
at_other x y l (suc n) h = refl

at_pred : {A : Type 0} (x : A) (l : List A) (n : ℕ) → zero < n → get_elem? l (pred n) ≡ get_elem? (x ∷ l) n
at_pred x l zero h = absurd (omega arith)
at_pred x l (suc n) h = refl

module _ {Step Subject : Type 0} (ok : Step → Subject → Bool) where
  -- ---- from steps to places

  first_matches : {p : Part Step} {x : Subject} → T (ok p.step x) → (q : Part Step) → some p ≡ some q → (y : Subject) × (some x ≡ some y) × T (ok q.step y)
  first_matches {p} {x} o q e = (x, refl, subst (λ (r : Part Step). T (ok r.step x)) (some_is p q e) o)

  none_placed : Places ok [] []
  none_placed = record {
    place = λ i. 0;
    first = refl;
    last = λ i e. absurd (omega arith);
    follows = λ i s e. absurd (at_nil (suc i) s e);
    matches = λ i s e. absurd (at_nil i s e);
    empty = λ e. refl;
  }

  to_places : {p : Part Step} {x : Subject} {sel : Selector Step} {path : List Subject} → T (ok p.step x) → Goes ok sel path → Places ok (p ∷ sel) (x ∷ path)
  to_places {p = p} o done = record {
    place = λ i. 0;
    first = refl;
    last = λ i e. refl;
    follows = λ i s e. absurd (at_nil i s e);
    matches = elim [ zero ↦ λ s e. first_matches o s e | suc i ↦ λ s e. absurd (at_nil i s e) ];
    empty = cons_nil p [];
  }
  to_places {p = p} o (here {p = q} {sel = sel} {x = y} {path = path} a g) =
      let r : Places ok (q ∷ sel) (y ∷ path) = to_places {p = q} {x = y} {sel = sel} {path = path} a g in
      record {
        place = elim [ zero ↦ 0 | suc i ↦ suc (r.place i) ];
        first = refl;
        last = elim [ zero ↦ λ e. absurd (omega arith) | suc i ↦ λ e. ap suc (r.last i (omega arith)) ];
        follows = elim [ zero ↦ λ s e. rw r.first (follows_next s.comb 0) | suc i ↦ λ s e. follows_suc s.comb (r.place i) (r.place (suc i)) (r.follows i s e) ];
        matches = elim [ zero ↦ λ s e. first_matches o s e | suc i ↦ λ s e. r.matches i s e ];
        empty = cons_nil p (q ∷ sel);
      }
  to_places {p = p} {x = x} o (skip {p = q} {sel = sel} {x = y} {path = path} d g) =
      let r : Places ok (p ∷ q ∷ sel) (x ∷ path) = to_places {p = p} {x = x} {sel = q ∷ sel} {path = path} o g in
      record {
        place = elim [ zero ↦ 0 | suc i ↦ suc (r.place (suc i)) ];
        first = refl;
        last = elim [ zero ↦ λ e. absurd (omega arith) | suc i ↦ λ e. ap suc (r.last (suc i) e) ];
        follows = elim [
          | zero ↦ λ s e. let c : s.comb ≡ descendant = cc in rw c (omega arith)
          | suc i ↦ λ s e. follows_suc s.comb (r.place (suc i)) (r.place (suc (suc i))) (r.follows (suc i) s e)
        ];
        matches = elim [
          | zero ↦ λ s e. first_matches o s e
          | suc i ↦ λ s e.
              let (z, h, t) = r.matches (suc i) s e in
              (z, at_other y x path (r.place (suc i)) (omega (arith, follows_lt s.comb (r.place i) (r.place (suc i)) (r.follows i s e))) ∙ h, t)
        ];
        empty = cons_nil p (q ∷ sel);
      }

  -- ---- and back

  module _ {sel : Selector Step} {path : List Subject} (r : Places ok sel path) where
    -- no step after the first stands before the second
    later : (i : ℕ) → suc i < length sel → r.place 1 ≤ r.place (suc i)
    later zero h = omega arith
    later (suc i) h =
        let (s, e) = at_some sel (suc (suc i)) h in
        omega (arith, later i (omega arith), follows_lt s.comb (r.place (suc i)) (r.place (suc (suc i))) (r.follows (suc i) s e))

    second : 1 < length sel → zero < r.place 1
    second h = let (s, e) = at_some sel 1 h in omega (arith, follows_lt s.comb (r.place 0) (r.place 1) (r.follows 0 s e))

  head_ok : (p : Part Step) (sel : Selector Step) (x : Subject) (path : List Subject) → Places ok (p ∷ sel) (x ∷ path) → T (ok p.step x)
  head_ok p sel x path r =
      let (z, k, t) = r.matches 0 p refl in
      let k' : some x ≡ some z = rw r.first at k in
      subst (λ (w : Subject). T (ok p.step w)) (sym (some_is x z k')) t

  -- the first step and the first subject are taken off
  shift : (p q : Part Step) (sel : Selector Step) (x y : Subject) (path : List Subject) (r : Places ok (p ∷ q ∷ sel) (x ∷ y ∷ path)) → r.place 1 ≤ 1 → Places ok (q ∷ sel) (y ∷ path)
  shift p q sel x y path r h =
      let after : (i : ℕ) → i < length (q ∷ sel) → zero < r.place (suc i) = λ i l. omega (arith, later r i (omega arith), second r (omega arith)) in
      record {
        place = λ i. pred (r.place (suc i));
        first = omega arith;
        last = λ i e. omega (arith, r.last (suc i) (ap suc e));
        follows = λ i s e. follows_pred s.comb (r.place (suc i)) (r.place (suc (suc i))) (after i (omega (arith, at_below (q ∷ sel) (suc i) s e))) (r.follows (suc i) s e);
        matches = λ i s e. let (z, k, t) = r.matches (suc i) s e in (z, at_pred x (y ∷ path) (r.place (suc i)) (after i (at_below (q ∷ sel) i s e)) ∙ k, t);
        empty = cons_nil q sel;
      }

  -- the second subject, where no step stands, is taken out
  close : (p q : Part Step) (sel : Selector Step) (x y : Subject) (path : List Subject) (r : Places ok (p ∷ q ∷ sel) (x ∷ y ∷ path)) → 1 < r.place 1 → Places ok (p ∷ q ∷ sel) (x ∷ path)
  close p q sel x y path r h =
      let far : (i : ℕ) → i < length (q ∷ sel) → 1 < r.place (suc i) = λ i l. omega (arith, later r i (omega arith)) in
      record {
        place = elim [ zero ↦ 0 | suc i ↦ pred (r.place (suc i)) ];
        first = refl;
        last = elim [ zero ↦ λ e. absurd (omega arith) | suc i ↦ λ e. omega (arith, r.last (suc i) e) ];
        follows = elim [
          | zero ↦ λ s e. let c = follows_far s.comb (r.place 0) (r.place 1) (omega (arith, r.first)) (r.follows 0 s e) in rw c (omega arith)
          | suc i ↦ λ s e. follows_pred s.comb (r.place (suc i)) (r.place (suc (suc i))) (omega (arith, far i (omega (arith, at_below (q ∷ sel) (suc i) s e)))) (r.follows (suc i) s e)
        ];
        matches = elim [
          | zero ↦ λ s e. first_matches (head_ok p (q ∷ sel) x (y ∷ path) r) s e
          | suc i ↦ λ s e.
              let (z, k, t) = r.matches (suc i) s e in
              let l = far i (at_below (q ∷ sel) i s e) in
              (z, at_other x y path (pred (r.place (suc i))) (omega arith) ∙ at_pred x (y ∷ path) (r.place (suc i)) (omega arith) ∙ k, t)
        ];
        empty = cons_nil p (q ∷ sel);
      }

  from_places : (p : Part Step) (sel : Selector Step) (x : Subject) (path : List Subject) → Places ok (p ∷ sel) (x ∷ path) → Goes ok sel path
  from_places p [] x [] r = done
  from_places p [] x (y ∷ path) r = absurd (omega (arith, r.first, r.last 0 refl))
  from_places p (q ∷ sel) x [] r = let (z, k, t) = r.matches 1 q refl in absurd (omega (arith, at_below (x ∷ []) (r.place 1) z k, second r (omega arith)))
  from_places p (q ∷ sel) x (y ∷ path) r = elim (dec_le (r.place 1) 1) [
    | yes h ↦ let s = shift p q sel x y path r h in here (head_ok q sel y path s) (from_places q sel y path s)
    | no h ↦
        let d = follows_far q.comb (r.place 0) (r.place 1) (omega (arith, r.first)) (r.follows 0 q refl) in
        skip d (from_places p (q ∷ sel) x path (close p q sel x y path r (omega arith)))
  ]

  -- A selector fits a path exactly if its steps can be given places, as 01 says
  pub fits_places : (sel : Selector Step) (path : List Subject) → Fits ok sel path ↔ Places ok sel path
  fits_places [] [] = (λ f. none_placed, λ r. tt)
  fits_places [] (x ∷ path) = (λ f. absurd f, λ r. cons_nil x path (r.empty refl))
  fits_places (p ∷ sel) [] = (λ f. absurd f, λ r. let (z, k, t) = r.matches 0 p refl in at_nil (r.place 0) z k)
  fits_places (p ∷ sel) (x ∷ path) = (λ f. to_places f.0 f.1, λ r. (head_ok p sel x path r, from_places p sel x path r))
