-- Laws of the walk over two ascending lists. Assumes nothing.
use mathlib.Core.Path.{◌≡◌, refl, sym, ◌∙◌}
use mathlib.Core.Bool.{true}
use mathlib.Core.Logic.{◌⊎◌, inl, inr, ◌↔◌}
use mathlib.Core.List.Memᴰ
use mathlib.Core.List.{List, ◌∷◌, ◌++◌, flat_map, append-nil}
use Prim.Native.Nat.{ℕ, suc, ◌+◌, ◌≤◌, ◌<◌}
use native.Mathlib.Numerals.{add-one}
use native.Mathlib.Omega.{arith}
use native.Mathlib.Decide.{dec_lt}
use lib.ListN.{length, get_or, take, drop, drop_of_length-le}
use lib.Seq.{length-take-le, drop-cons}
use Rattle.theory.specs.Lists.{◌∈◌, Ascending, ascends, sort}
use Rattle.theory.proofs.Lists.{append_in, flat_map_in, sort_in, sort_ascending, ascends_is}
use Rattle.idset.proofs.Ascending.{ascends_drop}
use Rattle.advance.specs.Collecting.{Free, Put, Walk, Least}
use Rattle.advance.proofs.Putting.{sort_ext, sort_ascended, ascending_length}

-- ---- which is the lowest

-- what is left of an ascending list, from its first on
from_first : (l : List ℕ) (i : ℕ) → ascends l ≡ true → i < length l → Ascending (get_or l i 0 ∷ drop (suc i) l)
from_first l i e h = rw (drop-cons l i 0 h) at ((ascends_is (drop i l)).0 (ascends_drop 0 i l e))

left_above : (l : List ℕ) (j c : ℕ) → ascends l ≡ true → (j < length l → c < get_or l j 0) → (k : ℕ) → k ∈ drop j l → c < k
left_above l j c e h k m = elim (dec_lt j (length l)) [
  | yes s ↦ elim (Memᴰ.cases_cons (rw (drop-cons l j 0 s) at m)) [ inl q ↦ omega (arith, h s) | inr n ↦ omega (arith, h s, (from_first l j e s).0 k n) ]
  | no s ↦ let z : length l ≤ j = omega arith in absurd (Memᴰ.not-nil (rw (drop_of_length-le l z) at m))
]

-- that of the first list, before all that are left of the second
pub least_first : (a b : List ℕ) (i j : ℕ) → ascends a ≡ true → ascends b ≡ true → i < length a → (j < length b → get_or a i 0 < get_or b j 0) → Least a b i j (get_or a i 0) (i + 1) j
least_first a b i j e f h g = rw (add-one i) (record {
  each = λ k. rw (drop-cons a i 0 h) (λ m. Memᴰ.cases_cons m, elim [ inl q ↦ Memᴰ.head q | inr m ↦ Memᴰ.tail m ]);
  above = λ k m. elim ((append_in (drop (suc i) a) (drop j b) k).0 m) [ inl n ↦ (from_first a i e h).0 k n | inr n ↦ left_above b j (get_or a i 0) f g k n ];
  in_a_lem = λ l. omega arith;
  in_b_lem = λ l. l;
  further = omega arith;
})

-- the same of the second list
swap : (l m : List ℕ) (k : ℕ) → k ∈ (l ++ m) → k ∈ (m ++ l)
swap l m k i = (append_in m l k).1 (elim ((append_in l m k).0 i) [ inl j ↦ inr j | inr j ↦ inl j ])

pub least_swap : {a b : List ℕ} {i j c i' j' : ℕ} → Least b a j i c j' i' → Least a b i j c i' j'
least_swap {a} {b} {i} {j} {c} {i'} {j'} s = record {
  each = λ k. (
    λ m. elim ((s.each k).0 (swap (drop i a) (drop j b) k m)) [ inl q ↦ inl q | inr n ↦ inr (swap (drop j' b) (drop i' a) k n) ],
    λ m. swap (drop j b) (drop i a) k ((s.each k).1 (elim m [ inl q ↦ inl q | inr n ↦ inr (swap (drop i' a) (drop j' b) k n) ])),
  );
  above = λ k m. s.above k (swap (drop i' a) (drop j' b) k m);
  in_a_lem = s.in_b_lem;
  in_b_lem = s.in_a_lem;
  further = omega (arith, s.further);
}

-- that of both
twice : (c : ℕ) (l m : List ℕ) (k : ℕ) → (k ∈ ((c ∷ l) ++ (c ∷ m))) ↔ ((k ≡ c) ⊎ (k ∈ (l ++ m)))
twice c l m k = (
  λ n. elim ((append_in (c ∷ l) (c ∷ m) k).0 n) [
    | inl o ↦ elim (Memᴰ.cases_cons o) [ inl q ↦ inl q | inr o' ↦ inr ((append_in l m k).1 (inl o')) ]
    | inr o ↦ elim (Memᴰ.cases_cons o) [ inl q ↦ inl q | inr o' ↦ inr ((append_in l m k).1 (inr o')) ]
  ],
  λ n. (append_in (c ∷ l) (c ∷ m) k).1 (elim n [
    | inl q ↦ inl (Memᴰ.head q)
    | inr o ↦ elim ((append_in l m k).0 o) [ inl o' ↦ inl (Memᴰ.tail o') | inr o' ↦ inr (Memᴰ.tail o') ]
  ]),
)

pub least_both : (a b : List ℕ) (i j : ℕ) → ascends a ≡ true → ascends b ≡ true → i < length a → j < length b → get_or a i 0 ≡ get_or b j 0 → Least a b i j (get_or a i 0) (i + 1) (j + 1)
least_both a b i j e f h g q = rw (add-one i, add-one j) (record {
  each = λ k. rw (drop-cons a i 0 h, drop-cons b j 0 g, ← q) (twice (get_or a i 0) (drop (suc i) a) (drop (suc j) b) k);
  above = λ k m. elim ((append_in (drop (suc i) a) (drop (suc j) b) k).0 m) [ inl n ↦ (from_first a i e h).0 k n | inr n ↦ rw q ((from_first b j f g).0 k n) ];
  in_a_lem = λ l. omega arith;
  in_b_lem = λ l. omega arith;
  further = omega arith;
})

-- ---- what is put and what is left make the whole

-- what f brings from a number is at most what g says of all above that
pub record Rises (f : ℕ → List ℕ) (g : ℕ → ℕ) : Type 0 where
  pub brings : (c k d : ℕ) → k ∈ f c → c < d → k ≤ g d

flat_next : (f : ℕ → List ℕ) (l l' r r' : List ℕ) (c : ℕ) → l' ≡ sort (l ++ f c) → ((k : ℕ) → (k ∈ r) ↔ ((k ≡ c) ⊎ (k ∈ r'))) → sort (l ++ flat_map f r) ≡ sort (l' ++ flat_map f r')
flat_next f l l' r r' c s e = rw s (sort_ext (l ++ flat_map f r) (sort (l ++ f c) ++ flat_map f r') (λ k. (to k, from k)))
  where
    to : (k : ℕ) → k ∈ (l ++ flat_map f r) → k ∈ (sort (l ++ f c) ++ flat_map f r')
    to k m = (append_in (sort (l ++ f c)) (flat_map f r') k).1 (elim ((append_in l (flat_map f r) k).0 m) [
      | inl i ↦ inl ((sort_in (l ++ f c) k).1 ((append_in l (f c) k).1 (inl i)))
      | inr i ↦
          let (d, o, n) = (flat_map_in f r k).0 i in
          elim ((e d).0 o) [ inl q ↦ inl ((sort_in (l ++ f c) k).1 ((append_in l (f c) k).1 (inr (rw q at n)))) | inr o' ↦ inr ((flat_map_in f r' k).1 (d, o', n)) ]
    ])

    from : (k : ℕ) → k ∈ (sort (l ++ f c) ++ flat_map f r') → k ∈ (l ++ flat_map f r)
    from k m = (append_in l (flat_map f r) k).1 (elim ((append_in (sort (l ++ f c)) (flat_map f r') k).0 m) [
      | inl i ↦ elim ((append_in l (f c) k).0 ((sort_in (l ++ f c) k).0 i)) [ inl j ↦ inl j | inr j ↦ inr ((flat_map_in f r k).1 (c, (e c).1 (inl refl), j)) ]
      | inr i ↦ let (d, o, n) = (flat_map_in f r' k).0 i in inr ((flat_map_in f r k).1 (d, (e d).1 (inr o), n))
    ])

pub walk_start : {f : ℕ → List ℕ} {g : ℕ → ℕ} {a b out : List ℕ} → length (sort (flat_map f (a ++ b))) + 2 ≤ length out → Walk f g a b out 0 0 0
walk_start h = record { within = omega arith; up = tt; low = λ k c i m. absurd (Memᴰ.not-nil i); whole = refl; room = h }

module _ {f : ℕ → List ℕ} {g : ℕ → ℕ} {a b out : List ℕ} {i j used : ℕ} (w : Walk f g a b out i j used) where
  -- as a number that is left asks
  pub walk_free : (c : ℕ) → c ∈ (drop i a ++ drop j b) → Free 2 (g c) out used
  walk_free c m = record {
    room = omega (arith, w.room, length-take-le used out w.within, ascending_length (take used out) (sort (flat_map f (a ++ b))) w.up (sort_ascending (flat_map f (a ++ b))) some);
    up = w.up;
    low = λ k n. w.low k c n m;
  }
    where
      some : (k : ℕ) → k ∈ take used out → k ∈ sort (flat_map f (a ++ b))
      some k n = rw w.whole ((sort_in (take used out ++ flat_map f (drop i a ++ drop j b)) k).1 ((append_in (take used out) (flat_map f (drop i a ++ drop j b)) k).1 (inl n)))

  pub walk_next : {c i' j' used' : ℕ} {out' : List ℕ} → Rises f g → Least a b i j c i' j' → Put out used (f c) out' used' → length out' ≡ length out → Walk f g a b out' i' j' used'
  walk_next {c} {i'} {j'} {used'} {out'} r s p h = record {
    within = p.within;
    up = rw p.joined (sort_ascending (take used out ++ f c));
    low = λ k d m n. elim ((append_in (take used out) (f c) k).0 ((sort_in (take used out ++ f c) k).0 (rw p.joined at m))) [
      | inl o ↦ w.low k d o ((s.each d).1 (inr n))
      | inr o ↦ r.brings c k d o (s.above d n)
    ];
    whole = w.whole ∙ flat_next f (take used out) (take used' out') (drop i a ++ drop j b) (drop i' a ++ drop j' b) c p.joined s.each;
    room = rw h w.room;
  }

  pub walk_end : length a ≤ i → length b ≤ j → take used out ≡ sort (flat_map f (a ++ b))
  unfolding flat_map
  walk_end h k = sym (w.whole ∙ rw (drop_of_length-le a h, drop_of_length-le b k, append-nil (take used out)) (sort_ascended (take used out) w.up))
