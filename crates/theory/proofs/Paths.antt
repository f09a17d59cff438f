-- The law of the last step: when a selector fits a tail of a path, told from the right ends of both. Assumes nothing.
use mathlib.Core.Path.{◌≡◌, refl}
use mathlib.Core.Logic.Iff
use mathlib.Core.Logic.{◌⊎◌, inl, inr, ◌↔◌}
use mathlib.Core.Bool.{Bool}
use mathlib.Core.List.{List, [], ◌∷◌, ◌++◌}
use Prim.Native.Nat.{ℕ, zero, suc, ◌≤◌}
use native.Mathlib.Omega.{arith}
use native.Mathlib.Decide.{dec_le}
use lib.ListN.{take, drop, length, length-append}
use lib.Seq.{drop-nil, take-nil, take_all, take-append-le, take-length}
use lib.Dec.{T}
use Rattle.theory.specs.Paths.{Comb, child, descendant, Part, Selector, Goes, done, here, skip, Fits, FitsTail}
use Rattle.theory.specs.Tails.{free}

pub or_iff : {A B C D : Type 0} → A ↔ C → B ↔ D → (A ⊎ B) ↔ (C ⊎ D)
or_iff f g = (elim [ inl a ↦ inl (f.0 a) | inr b ↦ inr (g.0 b) ], elim [ inl c ↦ inl (f.1 c) | inr d ↦ inr (g.1 d) ])

-- ---- some beginning of a path

-- F of the path for a child, F of some beginning of it for a descendant
abbrev pub Upto : {Subject : Type 0} → Comb → (List Subject → Type 0) → List Subject → Type 0
Upto child F path = F path
Upto descendant F path = (k : ℕ) × F (take k path)

module _ {Subject : Type 0} where
  upto_iff : (c : Comb) (F G : List Subject → Type 0) → ((q : List Subject) → F q ↔ G q) → (path : List Subject) → Upto c F path ↔ Upto c G path
  upto_iff child F G f path = f path
  upto_iff descendant F G f path = (λ u. (u.0, (f (take u.0 path)).0 u.1), λ u. (u.0, (f (take u.0 path)).1 u.1))

  -- one more subject on the right: some beginning is a beginning of the shorter path, or all
  pub upto_snoc : (F : List Subject → Type 0) (path : List Subject) (x : Subject) → Upto descendant F (path ++ x ∷ []) ↔ (Upto descendant F path ⊎ F (path ++ x ∷ []))
  upto_snoc F path x = (
    λ u. more u.0 (dec_le u.0 (length path)) u.1,
    elim [ inl u ↦ less u.0 (dec_le u.0 (length path)) u.1 | inr f ↦ (length (path ++ x ∷ []), rw (take-length (path ++ x ∷ [])) f) ],
  )
    where
      more : (k : ℕ) → Dec (k ≤ length path) → F (take k (path ++ x ∷ [])) → Upto descendant F path ⊎ F (path ++ x ∷ [])
      more k (yes h) f = inl (k, rw (take-append-le k path (x ∷ []) h) at f)
      more k (no h) f = inr (rw (take_all k (path ++ x ∷ []) (simp length-append (omega arith))) at f)

      less : (k : ℕ) → Dec (k ≤ length path) → F (take k path) → Upto descendant F (path ++ x ∷ [])
      less k (yes h) f = (k, rw (take-append-le k path (x ∷ []) h) f)
      less k (no h) f = (length path, rw (take-append-le (length path) path (x ∷ []) (omega arith), take-length) (rw (take_all k path (omega arith)) at f))

  upto_nil : (c : Comb) (F : List Subject → Type 0) → F [] → Upto c F []
  upto_nil child F u = u
  upto_nil descendant F u = (zero, u)

  upto_cons : (c : Comb) (F G : List Subject → Type 0) (y : Subject) → ((q : List Subject) → F q → G (y ∷ q)) → (path : List Subject) → Upto c F path → Upto c G (y ∷ path)
  upto_cons child F G y f path u = f path u
  upto_cons descendant F G y f path u = (suc u.0, f (take u.0 path) u.1)

module _ {Step Subject : Type 0} (ok : Step → Subject → Bool) where
  -- ---- the last step of steps that go

  goes_child : {sel : Selector Step} {path : List Subject} (q : Part Step) (x : Subject) → T (ok q.step x) → Goes ok sel path → Goes ok (sel ++ q ∷ []) (path ++ x ∷ [])
  goes_child q x o done = here o done
  goes_child q x o (here a g) = here a (goes_child q x o g)
  goes_child q x o (skip e g) = skip e (goes_child q x o g)

  goes_far : (path : List Subject) (q : Part Step) (x : Subject) → q.comb ≡ descendant → T (ok q.step x) → Goes ok (q ∷ []) (path ++ x ∷ [])
  goes_far [] q x e o = here o done
  goes_far (y ∷ path) q x e o = skip e (goes_far path q x e o)

  goes_nil : (sel : Selector Step) (path : List Subject) (q : Part Step) (x : Subject) → q.comb ≡ descendant → T (ok q.step x) → Goes ok sel [] → Goes ok (sel ++ q ∷ []) (path ++ x ∷ [])
  goes_nil [] path q x e o g = goes_far path q x e o
  goes_nil (p ∷ sel) path q x e o g = elim g [ ]

  goes_descendant : (sel : Selector Step) (k : ℕ) (path : List Subject) (q : Part Step) (x : Subject) → q.comb ≡ descendant → T (ok q.step x) → Goes ok sel (take k path) → Goes ok (sel ++ q ∷ []) (path ++ x ∷ [])
  goes_descendant sel zero path q x e o g = goes_nil sel path q x e o g
  goes_descendant sel (suc k) [] q x e o g = goes_nil sel [] q x e o g
  goes_descendant _ (suc k) (y ∷ path) q x e o (here {sel = sel} a g) = here a (goes_descendant sel k path q x e o g)
  goes_descendant _ (suc k) (y ∷ path) q x e o (skip {p = p} {sel = sel} d g) = skip d (goes_descendant (p ∷ sel) k path q x e o g)

  goes_init : (sel : Selector Step) (path : List Subject) (q : Part Step) (x : Subject) → T (ok q.step x) → (c : Comb) → q.comb ≡ c → Upto c (Goes ok sel) path → Goes ok (sel ++ q ∷ []) (path ++ x ∷ [])
  goes_init sel path q x o child e u = goes_child q x o u
  goes_init sel path q x o descendant e u = goes_descendant sel u.0 path q x e o u.1

  goes_last : (sel : Selector Step) (path : List Subject) (q : Part Step) (x : Subject) → Goes ok (sel ++ q ∷ []) (path ++ x ∷ []) → T (ok q.step x) × Upto q.comb (Goes ok sel) path
  goes_last [] [] q x (here o g) = (o, upto_nil q.comb (Goes ok []) g)
  goes_last [] [] q x (skip e g) = elim g [ ]
  goes_last [] (y ∷ []) q x (here o g) = elim g [ ]
  goes_last [] (y ∷ z ∷ path) q x (here o g) = elim g [ ]
  goes_last [] (y ∷ path) q x (skip e g) = ((goes_last [] path q x g).0, rw e (zero, done))
  goes_last (p ∷ []) [] q x (here o g) = elim g [ ]
  goes_last (p ∷ r ∷ sel) [] q x (here o g) = elim g [ ]
  goes_last (p ∷ sel) [] q x (skip e g) = elim g [ ]
  goes_last (p ∷ sel) (y ∷ path) q x (here o g) = let l = goes_last sel path q x g in (l.0, upto_cons q.comb (Goes ok sel) (Goes ok (p ∷ sel)) y (λ w u. here o u) path l.1)
  goes_last (p ∷ sel) (y ∷ path) q x (skip e g) = let l = goes_last (p ∷ sel) path q x g in (l.0, upto_cons q.comb (Goes ok (p ∷ sel)) (Goes ok (p ∷ sel)) y (λ w u. skip e u) path l.1)

  -- The last step stands at the last subject, and the steps before it go up to it, or, before a descendant, up to somewhere before it
  goes_snoc : (sel : Selector Step) (path : List Subject) (q : Part Step) (x : Subject) → Goes ok (sel ++ q ∷ []) (path ++ x ∷ []) ↔ (T (ok q.step x) × Upto q.comb (Goes ok sel) path)
  goes_snoc sel path q x = (goes_last sel path q x, λ h. goes_init sel path q x h.0 q.comb refl h.1)

  -- ---- some tail: the first step goes as a descendant

  tail_goes : (p : Part Step) (sel : Selector Step) (k : ℕ) (path : List Subject) → Fits ok (p ∷ sel) (drop k path) → Goes ok (free p ∷ sel) path
  tail_goes p sel zero [] f = absurd f
  tail_goes p sel zero (x ∷ path) f = here f.0 f.1
  tail_goes p sel (suc k) [] f = absurd f
  tail_goes p sel (suc k) (x ∷ path) f = skip refl (tail_goes p sel k path f)

  goes_tail : (p : Part Step) (sel : Selector Step) (path : List Subject) → Goes ok (free p ∷ sel) path → FitsTail ok (p ∷ sel) path
  goes_tail p sel path (here o g) = (zero, (o, g))
  goes_tail p sel (x ∷ path) (skip e g) = let t = goes_tail p sel path g in (suc t.0, t.1)

  -- A selector with steps fits some tail of the path if it goes along the path with a gap before its first step
  pub tail_is : (p : Part Step) (sel : Selector Step) (path : List Subject) → FitsTail ok (p ∷ sel) path ↔ Goes ok (free p ∷ sel) path
  tail_is p sel path = (λ f. tail_goes p sel f.0 path f.1, goes_tail p sel path)

  -- What a step waits for, `before` being the steps before it and `c` its combinator: the first step, for nothing; a child, that they fit a tail of the path;
  -- a descendant, that they fit a tail of some beginning of it
  abbrev pub Waits : Selector Step → Comb → List Subject → Type 0
  Waits [] c path = Unit {0}
  Waits (p ∷ before) c path = Upto c (FitsTail ok (p ∷ before)) path

  -- A selector fits a tail of a path if its last step is ok at the last subject, and had what it waited for
  pub fits_snoc : (before : Selector Step) (q : Part Step) (path : List Subject) (x : Subject)
      → FitsTail ok (before ++ q ∷ []) (path ++ x ∷ []) ↔ (T (ok q.step x) × Waits before q.comb path)
  fits_snoc [] q path x =
      let law = goes_snoc [] path (free q) x in
      (λ f. ((law.0 ((tail_is q [] (path ++ x ∷ [])).0 f)).0, tt), λ h. (tail_is q [] (path ++ x ∷ [])).1 (law.1 (h.0, (zero, done))))
  fits_snoc (p ∷ before) q path x =
      let law = goes_snoc (free p ∷ before) path q x in
      let all = tail_is p (before ++ q ∷ []) (path ++ x ∷ []) in
      let some = upto_iff q.comb (FitsTail ok (p ∷ before)) (Goes ok (free p ∷ before)) (tail_is p before) path in
      (λ f. let h = law.0 (all.0 f) in (h.0, some.1 h.1), λ h. all.1 (law.1 (h.0, some.0 h.1)))

  -- A selector with steps fits no tail of the empty path
  pub fits_nil : (p : Part Step) (sel : Selector Step) → FitsTail ok (p ∷ sel) [] → ⊥
  fits_nil p sel f = let h : Fits ok (p ∷ sel) [] = rw (drop-nil f.0) at f.1 in h

  -- Before the first subject only first steps have what they wait for
  pub waits_nil : (p : Part Step) (before : Selector Step) (c : Comb) → Waits (p ∷ before) c [] → ⊥
  waits_nil p before child u = fits_nil p before u
  waits_nil p before descendant u = fits_nil p before (rw (take-nil u.0) at u.1)

  waits_grow : (p : Part Step) (s : Selector Step) (c : Comb) (path : List Subject) (x : Subject)
      → Waits (p ∷ s) c (path ++ x ∷ []) ↔ (((c ≡ descendant) × Waits (p ∷ s) c path) ⊎ FitsTail ok (p ∷ s) (path ++ x ∷ []))
  waits_grow p s child path x = (λ u. inr u, elim [ inl h ↦ absurd (let z : ◌≡◌ {A = ℕ} 0 1 = cc h.0 in omega arith) | inr f ↦ f ])
  waits_grow p s descendant path x =
      let law = upto_snoc (FitsTail ok (p ∷ s)) path x in
      (λ u. elim (law.0 u) [ inl h ↦ inl (refl, h) | inr f ↦ inr f ], elim [ inl h ↦ law.1 (inl h.1) | inr f ↦ law.1 (inr f) ])

  -- After one more subject a step that is not the first has what it waits for if it had it and is a descendant, or if the step before it, `q`, had it and is ok there
  pub waits_snoc : (before : Selector Step) (q : Part Step) (c : Comb) (path : List Subject) (x : Subject)
      → Waits (before ++ q ∷ []) c (path ++ x ∷ []) ↔ (((c ≡ descendant) × Waits (before ++ q ∷ []) c path) ⊎ (T (ok q.step x) × Waits before q.comb path))
  waits_snoc [] q c path x = Iff.trans (waits_grow q [] c path x) (or_iff Iff.rfl (fits_snoc [] q path x))
  waits_snoc (p ∷ before) q c path x = Iff.trans (waits_grow p (before ++ q ∷ []) c path x) (or_iff Iff.rfl (fits_snoc (p ∷ before) q path x))
