-- The ways out of the calls: a law for each. Assumes nothing.
use mathlib.Core.Path.{◌≡◌, refl, sym, ap, ◌∙◌}
use mathlib.Core.List.Memᴰ
use mathlib.Core.List.{List, [], ◌∷◌, ◌++◌, append-nil}
use Prim.Native.Nat.{ℕ, zero, suc, ◌≤◌, ◌<◌}
use native.Mathlib.Omega.{arith}
use lib.ListN.{length, take, replicate}
use lib.Seq.{sets, length-take-le}
use lib.Dec.{eqb}
use borrow.Author.Tests.{lt-ltb, le-ltb, eq-eqb, ne_eqb}
use Rattle.theory.specs.Lists.{◌∈◌, sort}
use Rattle.theory.proofs.Lists.{sort_in}
use Rattle.std.specs.Prelude.{Result, Ok, Err}
use Rattle.lent.specs.Refusals.{told, answered, first_of, one_if}
use Rattle.lent.specs.declared.Refusal.{Refusal}
use Rattle.changeset.specs.Marks.{ids_in}
use Rattle.changeset.specs.Sets.{too_short, Lists, set_of, union_of, set_verdict, union_verdict, count_verdict}
use Rattle.changeset.proofs.Marks.{ids_none, sort_join}

-- ---- a set of some ids has some

there : (l : List ℕ) (c : ℕ) → c ∈ l → 0 < length l
there [] c m = absurd (Memᴰ.not-nil m)
there (a ∷ l) c m = omega arith

sort_some : (l : List ℕ) → 0 < length l → 0 < length (sort l)
sort_some [] h = absurd (omega arith)
sort_some (a ∷ l) h = there (sort (a ∷ l)) a ((sort_in (a ∷ l) a).1 (Memᴰ.head refl))

-- ---- a count against its list

module _ (ids : List ℕ) (n : ℕ) where
  pub count_past : (l : List ℕ) → length ids < n → told Refusal.OverSize ≡ answered (count_verdict ids n) l
  unfolding count_verdict first_of
  count_past l h = rw (lt-ltb (length ids) n h)

  pub count_told : (l : List ℕ) → n ≤ length ids → l ≡ answered (count_verdict ids n) l
  unfolding count_verdict first_of
  count_told l h = rw (le-ltb (length ids) n h)

  pub count_set : (l : List ℕ) {k : ℕ} → n ≤ length ids → l ≡ sort (take n ids ++ ids_in (replicate 2048 0)) → k ≡ length l → 0 ∷ k ∷ [] ≡ answered (count_verdict ids n) (0 ∷ length (set_of ids n) ∷ [])
  unfolding count_verdict first_of
  count_set l h e f = rw (le-ltb (length ids) n h, f, e, ids_none, append-nil (take n ids))

  count_none : n ≤ length ids → n ≡ 0 → 0 ∷ 1 ∷ [] ≡ answered (count_verdict ids n) (0 ∷ one_if (eqb (length (set_of ids n)) 0) ∷ [])
  count_none h z = let e : length (set_of ids n) ≡ 0 = rw z (unfold sort in refl) in rw (eq-eqb (length (set_of ids n)) 0 e) (count_told (0 ∷ 1 ∷ []) h)

  count_some : n ≤ length ids → (n ≡ 0 → ⊥) → 0 ∷ 0 ∷ [] ≡ answered (count_verdict ids n) (0 ∷ one_if (eqb (length (set_of ids n)) 0) ∷ [])
  count_some h z =
      let some = sort_some (take n ids) (omega (arith, length-take-le n ids h, z)) in
      rw (ne_eqb (length (set_of ids n)) 0 (λ e. omega (arith, some, e))) (count_told (0 ∷ 0 ∷ []) h)

  pub count_empty : n ≤ length ids → 0 ∷ one_if (eqb n 0) ∷ [] ≡ answered (count_verdict ids n) (0 ∷ one_if (eqb (length (set_of ids n)) 0) ∷ [])
  count_empty h = by n refl
    where
      by : (k : ℕ) → n ≡ k → 0 ∷ one_if (eqb n 0) ∷ [] ≡ answered (count_verdict ids n) (0 ∷ one_if (eqb (length (set_of ids n)) 0) ∷ [])
      by zero e = rw (eq-eqb n 0 e) (count_none h e)
      by (suc k) e = rw (ne_eqb n 0 (λ z. omega arith)) (count_some h (λ z. omega arith))

-- ---- a list into a buffer

module _ (l out : List ℕ) where
  pub list_short : {n : ℕ} → n ≡ length l → length out < n → Lists (first_of (too_short l out ∷ [])) l out (Err Refusal.BufferTooShort) out
  unfolding first_of
  list_short e h = let b = lt-ltb (length out) (length l) (omega arith) in record { answer = rw b; memory = rw b }

  pub list_fits_lem : {n : ℕ} {after : List ℕ} → n ≡ length l → n ≤ length out → after ≡ sets out 0 l → Lists (first_of (too_short l out ∷ [])) l out (Ok n) after
  unfolding first_of
  list_fits_lem e h m = let b = le-ltb (length out) (length l) (omega arith) in record { answer = rw (b, e); memory = rw b m }

-- ---- a set of ids

module _ (ids : List ℕ) (n : ℕ) (out : List ℕ) where
  pub set_past : length ids < n → Lists (set_verdict ids n out) (set_of ids n) out (Err Refusal.OverSize) out
  unfolding set_verdict first_of
  set_past h = let b = lt-ltb (length ids) n h in record { answer = rw b; memory = rw b }

  pub set_listed : (l : List ℕ) {after : List ℕ} {r : Result ℕ Refusal} → n ≤ length ids → l ≡ sort (take n ids ++ ids_in (replicate 2048 0))
      → Lists (first_of (too_short l out ∷ [])) l out r after → Lists (set_verdict ids n out) (set_of ids n) out r after
  unfolding set_verdict first_of
  set_listed l h e s =
      let q : l ≡ set_of ids n = e ∙ rw (ids_none 2048) (ap sort (append-nil (take n ids))) in
      rw (le-ltb (length ids) n h, sym q) s

-- ---- two sets joined

module _ (a : List ℕ) (n : ℕ) (b : List ℕ) (m : ℕ) (out : List ℕ) where
  pub union_past : length a < n → Lists (union_verdict a n b m out) (union_of a n b m) out (Err Refusal.OverSize) out
  unfolding union_verdict first_of
  union_past h = let t = lt-ltb (length a) n h in record { answer = rw t; memory = rw t }

  pub union_past_second : n ≤ length a → length b < m → Lists (union_verdict a n b m out) (union_of a n b m) out (Err Refusal.OverSize) out
  unfolding union_verdict first_of
  union_past_second g h = let s = le-ltb (length a) n g in let t = lt-ltb (length b) m h in record { answer = rw (s, t); memory = rw (s, t) }

  pub union_listed : (k l : List ℕ) {after : List ℕ} {r : Result ℕ Refusal} → n ≤ length a → m ≤ length b
      → k ≡ sort (take n a ++ ids_in (replicate 2048 0)) → l ≡ sort (take m b ++ k)
      → Lists (first_of (too_short l out ∷ [])) l out r after → Lists (union_verdict a n b m out) (union_of a n b m) out r after
  unfolding union_verdict first_of
  union_listed k l g h e f s =
      let q : l ≡ union_of a n b m = f ∙ rw (e, ids_none 2048, append-nil) (sort_join (take n a) (take m b)) in
      rw (le-ltb (length a) n g, le-ltb (length b) m h, sym q) s
