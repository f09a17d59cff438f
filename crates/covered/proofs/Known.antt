-- What a table of states knows, with no memory in sight: `at i` is the state that has the number i. Assumes nothing.
use mathlib.Core.Path.{◌≡◌, sym, ap, ◌∙◌}
use mathlib.Core.Bool.{Bool}
use mathlib.Core.List.{List, [], ◌∷◌, ◌++◌}
use mathlib.Core.Logic.{◌⊎◌, inl, inr}
use Prim.Native.Nat.{ℕ, ◌+◌, ◌≤◌, ◌<◌}
use native.Mathlib.Omega.{arith}
use native.Mathlib.Decide.{dec_lt}
use Rattle.theory.specs.States.{Sheet, State, root, enter, run}
use Rattle.theory.proofs.States.{run_snoc}

pub below : (i n : ℕ) → i < n + 1 → (i < n) ⊎ (i ≡ n)
below i n h = elim (dec_lt i n) [ yes l ↦ inl l | no l ↦ inr (omega arith) ]

module _ {Step Subject : Type 0} (ok : Step → Subject → Bool) (sheet : Sheet Step) where
  -- the first is the root, each is the state after some path, no two are equal
  pub record Known (count : ℕ) (at : ℕ → State) : Type 0 where
    pub some : 0 < count
    pub first : at 0 ≡ root sheet
    pub after : (i : ℕ) → i < count → (path : List Subject) × (at i ≡ run ok sheet path)
    pub distinct : (i j : ℕ) → i < count → j < count → at i ≡ at j → i ≡ j

  -- k is the number of the state of x under p
  pub record Leads (count : ℕ) (at : ℕ → State) (p k : ℕ) (x : Subject) : Type 0 where
    pub parent : p < count
    pub child : k < count
    pub enters : at k ≡ enter ok sheet (at p) x

  -- `at'` says the same of the first `count` numbers
  abbrev pub Same : ℕ → (ℕ → State) → (ℕ → State) → Type 0
  Same count at at' = (i : ℕ) → i < count → at' i ≡ at i

  -- the root alone
  pub known_root : {at : ℕ → State} → at 0 ≡ root sheet → Known 1 at
  unfolding run
  known_root {at} e = record {
    some = omega arith;
    first = e;
    after = λ i l. ([], let z : i ≡ 0 = omega arith in ap at z ∙ e);
    distinct = λ i j l m q. omega arith;
  }

  pub known_same : {count : ℕ} {at at' : ℕ → State} → Known count at → Same count at at' → Known count at'
  known_same k s = record {
    some = k.some;
    first = s 0 k.some ∙ k.first;
    after = λ i l. let (path, e) = k.after i l in (path, s i l ∙ e);
    distinct = λ i j l m e. k.distinct i j l m (sym (s i l) ∙ e ∙ s j m);
  }

  pub leads_same : {count count' : ℕ} {at at' : ℕ → State} {p k : ℕ} {x : Subject} → count ≤ count' → Same count at at' → Leads count at p k x → Leads count' at' p k x
  leads_same {p = p} {k = k} {x = x} b s l =
      let c = l.parent in
      let d = l.child in
      record { parent = omega arith; child = omega arith; enters = s k d ∙ l.enters ∙ ap (λ z. enter ok sheet z x) (sym (s p c)) }

  -- one state more: that of x under p, which none of them is
  pub known_more : {count : ℕ} {at at' : ℕ → State} (p : ℕ) (x : Subject)
      → Known count at
      → Same count at at'
      → p < count
      → at' count ≡ enter ok sheet (at p) x
      → ((i : ℕ) → i < count → at i ≡ enter ok sheet (at p) x → ⊥)
      → Known (count + 1) at'
  known_more {count} {at} {at'} p x k s l e new = record {
    some = omega arith;
    first = s 0 k.some ∙ k.first;
    after = λ i h. elim (below i count h) [
      | inl m ↦ let (path, q) = k.after i m in (path, s i m ∙ q)
      | inr m ↦ let (path, q) = k.after p l in (path ++ x ∷ [], ap at' m ∙ e ∙ ap (λ z. enter ok sheet z x) q ∙ sym (run_snoc ok sheet path x))
    ];
    distinct = λ i j h g q. both i j (below i count h) (below j count g) q;
  }
    where
      both : (i j : ℕ) → (i < count) ⊎ (i ≡ count) → (j < count) ⊎ (j ≡ count) → at' i ≡ at' j → i ≡ j
      both i j (inl a) (inl b) q = k.distinct i j a b (sym (s i a) ∙ q ∙ s j b)
      both i j (inl a) (inr b) q = absurd (new i a (sym (s i a) ∙ q ∙ ap at' b ∙ e))
      both i j (inr a) (inl b) q = absurd (new j b (sym (s j b) ∙ sym q ∙ ap at' a ∙ e))
      both i j (inr a) (inr b) q = omega arith
