-- Laws of numbers put one after the other into a buffer, in order and each once. Assumes nothing.
use mathlib.Core.Path.{◌≡◌, refl, sym, ap, ◌∙◌}
use mathlib.Core.Bool.{Bool, true, false, ◌&&◌, true≢false}
use mathlib.Core.Logic.Iff
use mathlib.Core.Logic.{inl, inr, ◌↔◌}
use mathlib.Core.List.Memᴰ
use mathlib.Core.List.{List, [], ◌∷◌, ◌++◌, append-nil, append_assoc}
use Prim.Native.Nat.{ℕ, suc, ◌+◌, ◌-◌, ◌≤◌, ◌<◌}
use native.Mathlib.Numerals.{add-one}
use native.Mathlib.Omega.{arith}
use native.Mathlib.Decide.{ℕ_discrete, dec_lt}
use lib.ListN.{length, get_or, set, take, drop, length-append, length-drop, length-set}
use lib.Seq.{length-take-le, take-suc, take-suc-set, drop-set-lt, drop-drop}
use lib.Dec.{ltb, eqb}
use borrow.Author.Tests.{lt-ltb, eq-eqb, ltb-true, eqb-true}
use Rattle.theory.specs.Lists.{◌∈◌, Ascending, inserted, sort, only}
use Rattle.theory.proofs.Lists.{and_left, and_right, append_in, only_in, ascending_ext, insert_skip, sort_in, sort_ascending, sort_snoc, sort_length}
use Rattle.advance.specs.Collecting.{Free, Put}

-- ---- sorted lists

-- the same members, sorted the same
pub sort_ext : (l m : List ℕ) → ((c : ℕ) → c ∈ l ↔ c ∈ m) → sort l ≡ sort m
sort_ext l m e = ascending_ext (sort l) (sort m) (sort_ascending l) (sort_ascending m) (λ c. Iff.trans (sort_in l c) (Iff.trans (e c) (Iff.symm (sort_in m c))))

pub sort_ascended : (l : List ℕ) → Ascending l → sort l ≡ l
sort_ascended l p = ascending_ext (sort l) l (sort_ascending l) p (sort_in l)

-- an ascending list whose members are some of another's is no longer than that
pub ascending_length : (l m : List ℕ) → Ascending l → Ascending m → ((k : ℕ) → k ∈ l → k ∈ m) → length l ≤ length m
ascending_length [] m p q h = omega arith
ascending_length (a ∷ l) [] p q h = absurd (Memᴰ.not-nil (h a (Memᴰ.head refl)))
ascending_length (a ∷ l) (b ∷ m) p q h = elim (ℕ_discrete a b) [
  | yes e ↦ omega (arith, ascending_length l m p.1 q.1 (λ k i. after k (omega (arith, p.0 k i)) (h k (Memᴰ.tail i))))
  | no e ↦
      let first : b < a = elim (Memᴰ.cases_cons (h a (Memᴰ.head refl))) [ inl s ↦ absurd (e s) | inr i ↦ q.0 a i ] in
      omega (arith, ascending_length (a ∷ l) m p q.1 (λ k i. after k (elim (Memᴰ.cases_cons i) [ inl s ↦ omega arith | inr j ↦ omega (arith, p.0 k j) ]) (h k i)))
]
  where
    after : (k : ℕ) → b < k → k ∈ (b ∷ m) → k ∈ m
    after k l i = elim (Memᴰ.cases_cons i) [ inl s ↦ absurd (omega arith) | inr j ↦ j ]

-- ---- one number more

module _ (l : List ℕ) (a : ℕ) where
  joined_same : Ascending l → a ∈ l → l ≡ sort (l ++ a ∷ [])
  joined_same p i =
      ascending_ext l (sort (l ++ a ∷ [])) p (sort_ascending (l ++ a ∷ []))
      (λ c. (
        λ j. (sort_in (l ++ a ∷ []) c).1 ((append_in l (a ∷ []) c).1 (inl j)),
        λ j. elim ((append_in l (a ∷ []) c).0 ((sort_in (l ++ a ∷ []) c).0 j)) [ inl k ↦ k | inr k ↦ rw (Memᴰ.eq_of_singleton k) i ],
      ))

insert_end : (a : ℕ) (l : List ℕ) → ((k : ℕ) → k ∈ l → k < a) → inserted a l ≡ l ++ a ∷ []
insert_end a [] h = unfold inserted in refl
insert_end a (b ∷ l) h = insert_skip a b l (h b (Memᴰ.head refl)) ∙ ap (λ r. b ∷ r) (insert_end a l (λ k i. h k (Memᴰ.tail i)))

joined_end : (l : List ℕ) (a : ℕ) → Ascending l → ((k : ℕ) → k ∈ l → k < a) → l ++ a ∷ [] ≡ sort (l ++ a ∷ [])
joined_end l a p h = sym (sort_snoc l a ∙ rw (sort_ascended l p) (insert_end a l h))

-- the last of an ascending list is above the others
last_above : (l : List ℕ) (z : ℕ) → Ascending (l ++ z ∷ []) → (k : ℕ) → k ∈ l → k < z
last_above [] z p k i = absurd (Memᴰ.not-nil i)
last_above (a ∷ l) z p k i = elim (Memᴰ.cases_cons i) [
  | inl e ↦ omega (arith, p.0 z ((append_in l (z ∷ []) z).1 (inr (Memᴰ.head refl))))
  | inr j ↦ last_above l z p.1 k j
]

-- ---- the ways through `put_new`

module _ (out : List ℕ) (used a : ℕ) (h : Free 1 a out used) where
  last_split : 0 < used → take used out ≡ take (used - 1) out ++ get_or out (used - 1) 0 ∷ []
  last_split l =
      let s : used ≡ suc (used - 1) = omega arith in
      ap (λ n. take n out) s ∙ take-suc out (used - 1) 0 (omega (arith, h.room))

  last_in : 0 < used → get_or out (used - 1) 0 ∈ take used out
  last_in l = rw (last_split l) ((append_in (take (used - 1) out) (get_or out (used - 1) 0 ∷ []) (get_or out (used - 1) 0)).1 (inr (Memᴰ.head refl)))

  all_below_lem : 0 < used → (get_or out (used - 1) 0 ≡ a → ⊥) → (k : ℕ) → k ∈ take used out → k < a
  all_below_lem l ne k i =
      let z = get_or out (used - 1) 0 in
      let top : z < a = omega (arith, h.low z (last_in l)) in
      elim ((append_in (take (used - 1) out) (z ∷ []) k).0 (rw (last_split l) at i)) [
        | inl j ↦ omega (arith, last_above (take (used - 1) out) z (rw (last_split l) at h.up) k j)
        | inr j ↦ omega (arith, Memᴰ.eq_of_singleton j)
      ]

  module _ (b : Bool) (e : b ≡ (ltb 0 used && eqb (get_or out (used - 1) 0) a)) where
    pub put_same : b ≡ true → Put out used (a ∷ []) out used
    put_same t =
        let both = sym e ∙ t in
        let some = ltb-true 0 used (and_left (ltb 0 used) _ both) in
        let last = eqb-true _ a (and_right (ltb 0 used) _ both) in
        record { joined = joined_same (take used out) a h.up (rw last at (last_in some)); past = refl; more = omega arith; within = omega (arith, h.room) }

    pub put_more : b ≡ false → Put out used (a ∷ []) (set out used a) (used + 1)
    put_more t = record {
      joined = rw (add-one used) (take-suc-set out used a (omega (arith, h.room)) ∙ joined_end (take used out) a h.up below);
      past = drop-set-lt (used + 1) out used a (omega arith);
      more = omega arith;
      within = rw length-set (omega (arith, h.room));
    }
      where
        differs : 0 < used → get_or out (used - 1) 0 ≡ a → ⊥
        differs l q = let z : true ≡ false = sym (e ∙ rw (lt-ltb 0 used l, eq-eqb _ a q)) ∙ t in absurd (true≢false z)

        below : (k : ℕ) → k ∈ take used out → k < a
        below k i = elim (dec_lt 0 used) [ yes l ↦ all_below_lem l (differs l) k i | no l ↦ let z : used ≡ 0 = omega arith in absurd (Memᴰ.not-nil (rw z at i)) ]

-- ---- nothing, and one after the other

pub put_none : {spare a : ℕ} {out : List ℕ} {used : ℕ} → Free spare a out used → Put out used [] out used
put_none {spare} {a} {out} {used} f = record { joined = rw append-nil (sym (sort_ascended (take used out) f.up)); past = refl; more = omega arith; within = omega (arith, f.room) }

sort_twice : (l m n : List ℕ) → sort (sort (l ++ m) ++ n) ≡ sort (l ++ (m ++ n))
sort_twice l m n = sort_ext (sort (l ++ m) ++ n) (l ++ (m ++ n)) (λ c. rw (← append_assoc l m n) (
  λ i. (append_in (l ++ m) n c).1 (elim ((append_in (sort (l ++ m)) n c).0 i) [ inl j ↦ inl ((sort_in (l ++ m) c).0 j) | inr j ↦ inr j ]),
  λ i. (append_in (sort (l ++ m)) n c).1 (elim ((append_in (l ++ m) n c).0 i) [ inl j ↦ inl ((sort_in (l ++ m) c).1 j) | inr j ↦ inr j ]),
))

-- what stands past a place stands past a later one
pub past_later : (n m : ℕ) (l k : List ℕ) → n ≤ m → drop n l ≡ drop n k → drop m l ≡ drop m k
past_later n m l k h e =
    let s : m ≡ n + (m - n) = omega arith in
    rw (s, ← drop-drop (m - n) n l, ← drop-drop (m - n) n k, e)

module _ {out m out' : List ℕ} {used used' : ℕ} (p : Put out used m out' used') where
  pub put_then : {n out'' : List ℕ} {used'' : ℕ} → Put out' used' n out'' used'' → Put out used (m ++ n) out'' used''
  put_then {n} {out''} {used''} q = record {
    joined = q.joined ∙ rw p.joined (sort_twice (take used out) m n);
    past = q.past ∙ past_later used' used'' out' out q.more p.past;
    more = omega (arith, p.more, q.more);
    within = q.within;
  }

-- at most one more
put_few : {out out' : List ℕ} {used used' : ℕ} (b : Bool) (n : ℕ) → Put out used (only b n) out' used' → used ≤ length out → used' ≤ used + 1
put_few {out} {out'} {used} {used'} b n p h =
    let l = take used out in
    omega (arith, length-take-le used' out' p.within, length-take-le used out h, ap length p.joined, sort_length (l ++ only b n), length-append l (only b n), one b)
  where
    one : (b : Bool) → length (only b n) ≤ 1
    one true = omega arith
    one false = omega arith

-- after that there is room for one less, and what is so far is at most what it was, or what was put
pub put_free : {out out' : List ℕ} {used used' : ℕ} (b : Bool) (n : ℕ) → Put out used (only b n) out' used' → Free 2 n out used → Free 1 (n + 1) out' used'
put_free {out} {out'} {used} {used'} b n p f = record {
  room = omega (arith, put_few b n p (omega (arith, f.room)), f.room, ap length p.past, length-drop used' out', length-drop used' out);
  up = rw p.joined (sort_ascending (take used out ++ only b n));
  low = λ k i. elim ((append_in (take used out) (only b n) k).0 ((sort_in (take used out ++ only b n) k).0 (rw p.joined at i))) [
    | inl j ↦ omega (arith, f.low k j)
    | inr j ↦ omega (arith, ((only_in b n k).0 j).1)
  ];
}

-- ---- the ways through `ends_with`

pub ends_none : (used : ℕ) (b : Bool) → used ≡ 0 → false ≡ (ltb 0 used && b)
ends_none used b e = rw e

pub ends_some : (used : ℕ) (b : Bool) → (used ≡ 0 → ⊥) → b ≡ (ltb 0 used && b)
ends_some used b h = rw (lt-ltb 0 used (omega arith))
