-- Laws of lists of numbers: an ascending list is told by its members; sorting, selecting and the tests, by members. Assumes nothing.
use mathlib.Core.Path.{◌≡◌, refl, sym, ap, ap₂, ◌∙◌}
use mathlib.Core.Logic.Iff
use mathlib.Core.Logic.{◌⊎◌, inl, inr, ⊎_elim, ◌↔◌}
use mathlib.Core.Bool.{Bool, true, false, ◌&&◌, ◌||◌, true≢false}
use mathlib.Core.List.Memᴰ
use mathlib.Core.List.{List, [], ◌∷◌, ◌++◌, flat_map, append-nil, append_assoc}
use Prim.Native.Nat.{ℕ, zero, suc, ◌<◌, ◌≤◌}
use native.Mathlib.Omega.{arith}
use native.Mathlib.Decide.{dec_lt}
use lib.ListN.{length, get_or, take}
use lib.Seq.{append_snoc, take-suc}
use lib.Dec.{T, leb, eqb}
use borrow.Author.Tests.{lt-ltb, le-ltb, le-leb, leb-true, eq-eqb, ne_eqb, eqb-true}
use Rattle.theory.specs.Lists.{◌∈◌, Ascending, ascends_from, ascends, member, contained, inserted, sort, only, select}

-- ---- numbers and tests

pub le_or_lt : (a b : ℕ) → (a ≤ b) ⊎ (b < a)
le_or_lt zero b = inl (omega arith)
le_or_lt (suc a) zero = inr (omega arith)
le_or_lt (suc a) (suc b) = ⊎_elim (λ p. inl (omega arith)) (λ q. inr (omega arith)) (le_or_lt a b)

pub and_left : (a b : Bool) → (a && b) ≡ true → a ≡ true
and_left true b e = refl
and_left false b e = e

pub and_right : (a b : Bool) → (a && b) ≡ true → b ≡ true
and_right true b e = e
and_right false b e = cc

pub or_first : (a b : Bool) → (a || b) ≡ false → a ≡ false
or_first true b e = e
or_first false b e = refl

pub or_second : (a b : Bool) → (a || b) ≡ false → b ≡ false
or_second true b e = cc
or_second false b e = e

pub and_both : (a b : Bool) → a ≡ true → b ≡ true → (a && b) ≡ true
and_both a b e f = rw (e, f)

pub or_cases : (a b : Bool) → (a || b) ≡ true → (a ≡ true) ⊎ (b ≡ true)
or_cases true b e = inl refl
or_cases false b e = inr e

-- a test that holds, as a proposition
pub T-is : (b : Bool) → T b ↔ (b ≡ true)
T-is true = (λ h. refl, λ e. tt)
T-is false = (λ h. absurd h, λ e. absurd (true≢false (sym e)))

-- two tests that hold alike are one
pub bool_ext : (a b : Bool) → (a ≡ true → b ≡ true) → (b ≡ true → a ≡ true) → a ≡ b
bool_ext true b f g = sym (f refl)
bool_ext false true f g = g refl
bool_ext false false f g = refl

-- ---- members of lists put together

pub append_in : {A : Type 0} (l m : List A) (c : A) → (c ∈ (l ++ m)) ↔ ((c ∈ l) ⊎ (c ∈ m))
append_in l m c = (λ h. Memᴰ.append_cases l h, elim [ inl h ↦ Memᴰ.append_left m h | inr h ↦ Memᴰ.append_right l h ])

pub flat_map_in : {A B : Type 0} (f : A → List B) (l : List A) (c : B) → (c ∈ flat_map f l) ↔ ((a : A) × (a ∈ l) × (c ∈ f a))
unfolding flat_map
flat_map_in f [] c = (λ h. absurd (Memᴰ.not-nil h), λ h. absurd (Memᴰ.not-nil h.1))
flat_map_in f (a ∷ l) c = (
  λ h. elim ((append_in (f a) (flat_map f l) c).0 h) [
    | inl k ↦ (a, Memᴰ.head refl, k)
    | inr k ↦ let i = (flat_map_in f l c).0 k in (i.0, Memᴰ.tail i.1, i.2)
  ],
  λ h. (append_in (f a) (flat_map f l) c).1 (elim (Memᴰ.cases_cons h.1) [
    | inl e ↦ inl (rw e at h.2)
    | inr k ↦ inr ((flat_map_in f l c).1 (h.0, k, h.2))
  ]),
)

pub flat_map_append : {A B : Type 0} (f : A → List B) (l m : List A) → flat_map f (l ++ m) ≡ flat_map f l ++ flat_map f m
unfolding flat_map
flat_map_append f [] m = refl
flat_map_append f (a ∷ l) m = ap (λ r. f a ++ r) (flat_map_append f l m) ∙ sym (append_assoc (f a) (flat_map f l) (flat_map f m))

pub only_in : (b : Bool) (n c : ℕ) → (c ∈ only b n) ↔ (T b × (c ≡ n))
only_in true n c = (λ h. (tt, Memᴰ.eq_of_singleton h), λ h. Memᴰ.head h.1)
only_in false n c = (λ h. absurd (Memᴰ.not-nil h), λ h. absurd h.0)

-- ---- an ascending list is told by its members

pub ascending_ext : (l m : List ℕ) → Ascending l → Ascending m → ((a : ℕ) → a ∈ l ↔ a ∈ m) → l ≡ m
ascending_ext [] [] p q e = refl
ascending_ext [] (b ∷ m) p q e = absurd (Memᴰ.not-nil ((e b).1 (Memᴰ.head refl)))
ascending_ext (a ∷ l) [] p q e = absurd (Memᴰ.not-nil ((e a).0 (Memᴰ.head refl)))
ascending_ext (a ∷ l) (b ∷ m) p q e =
    ap₂ (λ (x : ℕ) (xs : List ℕ). x ∷ xs) same
    (ascending_ext l m p.1 q.1 (λ c. (
      λ h. rest a b l m p.0 same c h (Memᴰ.cases_cons ((e c).0 (Memᴰ.tail h))),
      λ h. rest b a m l q.0 (sym same) c h (Memᴰ.cases_cons ((e c).1 (Memᴰ.tail h))),
    )))
  where
    heads : (a ≡ b) ⊎ (a ∈ m) → (b ≡ a) ⊎ (b ∈ l) → a ≡ b
    heads (inl h) k = h
    heads (inr h) (inl k) = sym k
    heads (inr h) (inr k) = omega (arith, q.0 a h, p.0 b k)

    same : a ≡ b
    same = heads (Memᴰ.cases_cons ((e a).0 (Memᴰ.head refl))) (Memᴰ.cases_cons ((e b).1 (Memᴰ.head refl)))

    rest : (a b : ℕ) (l m : List ℕ) → ((c : ℕ) → c ∈ l → a < c) → a ≡ b → (c : ℕ) → c ∈ l → (c ≡ b) ⊎ (c ∈ m) → c ∈ m
    rest a b l m lo s c h (inl k) = absurd (omega (arith, lo c h))
    rest a b l m lo s c h (inr k) = k

append_ascending : (l m : List ℕ) → Ascending l → Ascending m → ((a b : ℕ) → a ∈ l → b ∈ m → a < b) → Ascending (l ++ m)
append_ascending [] m p q h = q
append_ascending (a ∷ l) m p q h = (
  λ b k. elim ((append_in l m b).0 k) [ inl i ↦ p.0 b i | inr i ↦ h a b (Memᴰ.head refl) i ],
  append_ascending l m p.1 q (λ c b i j. h c b (Memᴰ.tail i) j),
)

-- ---- sorting

pub insert_skip : (x a : ℕ) (l : List ℕ) → a < x → inserted x (a ∷ l) ≡ a ∷ inserted x l
unfolding inserted
insert_skip x a l h = rw (lt-ltb a x h)

pub insert_same : (x a : ℕ) (l : List ℕ) → a ≡ x → inserted x (a ∷ l) ≡ a ∷ l
unfolding inserted
insert_same x a l h = rw (le-ltb a x (omega arith), eq-eqb a x h)

pub insert_here : (x a : ℕ) (l : List ℕ) → x < a → inserted x (a ∷ l) ≡ x ∷ a ∷ l
unfolding inserted
insert_here x a l h = rw (le-ltb a x (omega arith), ne_eqb a x (omega arith))

pub insert_in : (x : ℕ) (l : List ℕ) (c : ℕ) → (c ∈ inserted x l) ↔ ((c ≡ x) ⊎ (c ∈ l))
insert_in x [] c = unfold inserted in (λ h. Memᴰ.cases_cons h, elim [ inl e ↦ Memᴰ.head e | inr h ↦ absurd (Memᴰ.not-nil h) ])
insert_in x (a ∷ l) c =
    ⊎_elim
    (λ (p : x ≤ a). ⊎_elim
    (λ q. let s : a ≡ x = omega arith in
    rw (insert_same x a l s) (λ h. inr h, elim [ inl e ↦ Memᴰ.head (e ∙ sym s) | inr h ↦ h ]))
    (λ q. rw (insert_here x a l q) (λ h. Memᴰ.cases_cons h, elim [ inl e ↦ Memᴰ.head e | inr h ↦ Memᴰ.tail h ]))
    (le_or_lt a x))
    (λ p. rw (insert_skip x a l p) (
      λ h. elim (Memᴰ.cases_cons h) [ inl e ↦ inr (Memᴰ.head e) | inr k ↦ elim ((insert_in x l c).0 k) [ inl e ↦ inl e | inr m ↦ inr (Memᴰ.tail m) ] ],
      elim [
        | inl e ↦ Memᴰ.tail ((insert_in x l c).1 (inl e))
        | inr h ↦ elim (Memᴰ.cases_cons h) [ inl e ↦ Memᴰ.head e | inr m ↦ Memᴰ.tail ((insert_in x l c).1 (inr m)) ]
      ],
    ))
    (le_or_lt x a)

pub insert_ascending : (x : ℕ) (l : List ℕ) → Ascending l → Ascending (inserted x l)
insert_ascending x [] h = unfold inserted in (λ b m. absurd (Memᴰ.not-nil m), tt)
insert_ascending x (a ∷ l) h =
    ⊎_elim
    (λ (p : x ≤ a). ⊎_elim
    (λ q. rw (insert_same x a l (omega arith)) h)
    (λ q. rw (insert_here x a l q) (λ c m. elim (Memᴰ.cases_cons m) [ inl e ↦ omega arith | inr k ↦ omega (arith, h.0 c k) ], h))
    (le_or_lt a x))
    (λ p. rw (insert_skip x a l p) (λ c m. elim ((insert_in x l c).0 m) [ inl e ↦ omega arith | inr k ↦ h.0 c k ], insert_ascending x l h.1))
    (le_or_lt x a)

pub sort_in : (l : List ℕ) (c : ℕ) → (c ∈ sort l) ↔ (c ∈ l)
unfolding sort
sort_in [] c = (λ h. h, λ h. h)
sort_in (a ∷ l) c = (
  λ h. elim ((insert_in a (sort l) c).0 h) [ inl e ↦ Memᴰ.head e | inr m ↦ Memᴰ.tail ((sort_in l c).0 m) ],
  λ h. (insert_in a (sort l) c).1 (elim (Memᴰ.cases_cons h) [ inl e ↦ inl e | inr m ↦ inr ((sort_in l c).1 m) ]),
)

pub sort_ascending : (l : List ℕ) → Ascending (sort l)
unfolding sort
sort_ascending [] = tt
sort_ascending (a ∷ l) = insert_ascending a (sort l) (sort_ascending l)

-- one more at the right end
pub sort_snoc : (l : List ℕ) (a : ℕ) → sort (l ++ a ∷ []) ≡ inserted a (sort l)
sort_snoc l a = ascending_ext (sort (l ++ a ∷ [])) (inserted a (sort l)) (sort_ascending (l ++ a ∷ [])) (insert_ascending a (sort l) (sort_ascending l))
    (λ c. (
      λ h. (insert_in a (sort l) c).1 (elim ((append_in l (a ∷ []) c).0 ((sort_in (l ++ a ∷ []) c).0 h)) [ inl m ↦ inr ((sort_in l c).1 m) | inr m ↦ inl (Memᴰ.eq_of_singleton m) ]),
      λ h. (sort_in (l ++ a ∷ []) c).1 ((append_in l (a ∷ []) c).1 (elim ((insert_in a (sort l) c).0 h) [ inl e ↦ inr (Memᴰ.head e) | inr m ↦ inl ((sort_in l c).0 m) ])),
    ))

pub sort_next : (l : List ℕ) (i : ℕ) → i < length l → sort (take (suc i) l) ≡ inserted (get_or l i 0) (sort (take i l))
sort_next l i h = rw (take-suc l i 0 h) (sort_snoc (take i l) (get_or l i 0))

pub insert_length : (x : ℕ) (l : List ℕ) → (length l ≤ length (inserted x l)) × (length (inserted x l) ≤ suc (length l))
insert_length x [] = unfold inserted in omega arith
insert_length x (a ∷ l) =
    ⊎_elim
    (λ (p : x ≤ a). ⊎_elim (λ q. rw (insert_same x a l (omega arith)) (omega arith)) (λ q. rw (insert_here x a l q) (omega arith)) (le_or_lt a x))
    (λ p. rw (insert_skip x a l p) (omega (arith, insert_length x l)))
    (le_or_lt x a)

pub sort_length : (l : List ℕ) → length (sort l) ≤ length l
unfolding sort
sort_length [] = omega arith
sort_length (a ∷ l) = omega (arith, sort_length l, insert_length a (sort l))

-- ---- selecting

pub select_in : (f : ℕ → Bool) (n c : ℕ) → (c ∈ select f n) ↔ ((c < n) × T (f c))
unfolding select
select_in f zero c = (λ h. absurd (Memᴰ.not-nil h), λ h. absurd (omega arith))
select_in f (suc n) c = (
  λ h. elim ((append_in (select f n) (only (f n) n) c).0 h) [
    | inl k ↦ let i = (select_in f n c).0 k in (omega (arith, i.0), i.1)
    | inr k ↦ let i = (only_in (f n) n c).0 k in (omega (arith, i.1), rw i.1 i.0)
  ],
  λ h. (append_in (select f n) (only (f n) n) c).1 (elim (dec_lt c n) [
    | yes k ↦ inl ((select_in f n c).1 (k, h.1))
    | no k ↦ let e : c ≡ n = omega arith in inr ((only_in (f n) n c).1 (rw e at h.1, e))
  ]),
)

only_ascending : (b : Bool) (n : ℕ) → Ascending (only b n)
only_ascending true n = (λ b m. absurd (Memᴰ.not-nil m), tt)
only_ascending false n = tt

pub select_ascending : (f : ℕ → Bool) (n : ℕ) → Ascending (select f n)
unfolding select
select_ascending f zero = tt
select_ascending f (suc n) =
    append_ascending (select f n) (only (f n) n) (select_ascending f n) (only_ascending (f n) n)
    (λ a b i j. omega (arith, ((select_in f n a).0 i).0, ((only_in (f n) n b).0 j).1))

-- an ascending list of numbers below n is what a test for its members selects
pub ascending_select : (f : ℕ → Bool) (n : ℕ) (l : List ℕ) → Ascending l → ((c : ℕ) → c ∈ l ↔ ((c < n) × T (f c))) → l ≡ select f n
ascending_select f n l p h = ascending_ext l (select f n) p (select_ascending f n) (λ c. Iff.trans (h c) (Iff.symm (select_in f n c)))

-- ---- what the tests mean

pub ascends_head : (low a : ℕ) (l : List ℕ) → ascends_from low (a ∷ l) ≡ true → low ≤ a
unfolding ascends_from
ascends_head low a l e = leb-true low a (and_left (leb low a) _ e)

pub ascends_tail : (low a : ℕ) (l : List ℕ) → ascends_from low (a ∷ l) ≡ true → ascends_from (suc a) l ≡ true
unfolding ascends_from
ascends_tail low a l e = and_right (leb low a) _ e

pub ascends_cons : (low a : ℕ) (l : List ℕ) → low ≤ a → ascends_from (suc a) l ≡ true → ascends_from low (a ∷ l) ≡ true
unfolding ascends_from
ascends_cons low a l h e = rw (le-leb low a h, e)

ascends_to : (low : ℕ) (l : List ℕ) → ascends_from low l ≡ true → ((c : ℕ) → c ∈ l → low ≤ c) × Ascending l
ascends_to low [] e = (λ c m. absurd (Memᴰ.not-nil m), tt)
ascends_to low (a ∷ l) e =
    let h = ascends_head low a l e in
    let r = ascends_to (suc a) l (ascends_tail low a l e) in
    (λ c m. elim (Memᴰ.cases_cons m) [ inl q ↦ omega arith | inr k ↦ omega (arith, r.0 c k) ], (λ b k. omega (arith, r.0 b k), r.1))

ascends_from_lem : (low : ℕ) (l : List ℕ) → ((c : ℕ) → c ∈ l → low ≤ c) → Ascending l → ascends_from low l ≡ true
ascends_from_lem low [] h p = unfold ascends_from in refl
ascends_from_lem low (a ∷ l) h p = ascends_cons low a l (h a (Memᴰ.head refl)) (ascends_from_lem (suc a) l (λ c m. omega (arith, p.0 c m)) p.1)

pub ascends_is : (l : List ℕ) → (ascends l ≡ true) ↔ Ascending l
ascends_is l = (λ e. (ascends_to 0 l e).1, λ p. ascends_from_lem 0 l (λ c m. omega arith) p)

pub member_is : (x : ℕ) (l : List ℕ) → (member x l ≡ true) ↔ (x ∈ l)
unfolding member
member_is x [] = (λ e. absurd (true≢false (sym e)), λ h. absurd (Memᴰ.not-nil h))
member_is x (a ∷ l) = (
  λ e. elim (or_cases (eqb a x) (member x l) e) [ inl h ↦ Memᴰ.head (sym (eqb-true a x h)) | inr h ↦ Memᴰ.tail ((member_is x l).0 h) ],
  λ h. elim (Memᴰ.cases_cons h) [ inl e ↦ rw (eq-eqb a x (sym e)) | inr k ↦ or_right (eqb a x) (member x l) ((member_is x l).1 k) ],
)
  where
    or_right : (a b : Bool) → b ≡ true → (a || b) ≡ true
    or_right true b e = refl
    or_right false b e = e

-- containment of members
pub contained_is : (l m : List ℕ) → (contained l m ≡ true) ↔ ((a : ℕ) → a ∈ l → a ∈ m)
unfolding contained
contained_is [] m = (λ e a h. absurd (Memᴰ.not-nil h), λ f. refl)
contained_is (b ∷ l) m = (
  λ e a h. elim (Memᴰ.cases_cons h) [
    | inl q ↦ rw q ((member_is b m).0 (and_left (member b m) (contained l m) e))
    | inr k ↦ (contained_is l m).0 (and_right (member b m) (contained l m) e) a k
  ],
  λ f. and_both (member b m) (contained l m) ((member_is b m).1 (f b (Memᴰ.head refl))) ((contained_is l m).1 (λ a k. f a (Memᴰ.tail k))),
)

-- ---- induction from the right

pub snoc_induction : {A : Type 0} (P : List A → Type 0) → P [] → ((l : List A) (x : A) → P l → P (l ++ x ∷ [])) → (l : List A) → P l
snoc_induction {A} P base step l = go [] l base
  where
    go : (front l : List A) → P front → P (front ++ l)
    go front [] h = rw append-nil h
    go front (x ∷ l) h = rw (append_snoc front x l) at (go (front ++ x ∷ []) l (step front x h))
