-- Laws of lists spread out, of sums, of a limit, and of rows end to end. Assumes nothing.
use mathlib.Core.Path.{◌≡◌, refl, sym, ap, ◌∙◌}
use mathlib.Core.Bool.{true}
use mathlib.Core.Option.{some}
use mathlib.Core.List.Memᴰ
use mathlib.Core.List.{List, [], ◌∷◌, ◌++◌, map, flat_map, append-nil}
use Prim.Native.Nat.{ℕ, zero, suc, ◌+◌, ◌-◌, ◌*◌, ◌≤◌, ◌<◌}
use native.Mathlib.Nat.{add-zero, zero-add, sub-zero, mul-suc, le_of_suc-le-suc}
use native.Mathlib.Numerals.{add-one}
use native.Mathlib.Omega.{arith}
use native.Mathlib.Decide.{dec_lt}
use lib.ListN.{length, get_elem?, get_or, take, drop, length-append, get_or-append}
use lib.Seq.{drop-cons, take-length, get_or-append-add}
use lib.Dec.{leb}
use borrow.Author.Tests.{le-leb, leb-true}
use Rattle.theory.specs.Lists.{◌∈◌, at_most, spread, sum_below}
use Rattle.theory.proofs.Lists.{and_left, and_right}

-- ---- a list spread out

module _ {A : Type 0} where
  pub length_spread : (f : ℕ → A) (k n : ℕ) → length (spread f k n) ≡ n
  length_spread f k zero = refl
  length_spread f k (suc n) = ap suc (length_spread f (suc k) n)

  -- what stands at i
  pub get_elem?-spread : (f : ℕ → A) (k n i : ℕ) → i < n → get_elem? (spread f k n) i ≡ some (f (k + i))
  get_elem?-spread f k zero i h = absurd (omega arith)
  get_elem?-spread f k (suc n) zero h = rw add-zero
  get_elem?-spread f k (suc n) (suc i) h = let z : k + suc i ≡ suc k + i = omega arith in rw z (get_elem?-spread f (suc k) n i (le_of_suc-le-suc h))

  pub get_or_spread : (f : ℕ → A) (k n i : ℕ) (d : A) → i < n → get_or (spread f k n) i d ≡ f (k + i)
  get_or_spread f k zero i d h = absurd (omega arith)
  get_or_spread f k (suc n) zero d h = rw add-zero
  get_or_spread f k (suc n) (suc i) d h = let z : k + suc i ≡ suc k + i = omega arith in rw z (get_or_spread f (suc k) n i d (le_of_suc-le-suc h))

  -- equal at each number, equal spread out
  pub spread_same : (f g : ℕ → A) (k n : ℕ) → ((i : ℕ) → k ≤ i → i < k + n → f i ≡ g i) → spread f k n ≡ spread g k n
  spread_same f g k zero h = refl
  spread_same f g k (suc n) h = rw (h k (omega arith) (omega arith)) (ap (λ l. g k ∷ l) (spread_same f g (suc k) n (λ i p q. h i (omega arith) (omega arith))))

  -- the first m, then n more
  pub spread_more : (f : ℕ → A) (k m n : ℕ) → spread f k (m + n) ≡ spread f k m ++ spread f (k + m) n
  spread_more f k zero n = rw (zero-add, add-zero)
  spread_more f k (suc m) n =
      let z : k + suc m ≡ suc k + m = omega arith in
      let s : suc m + n ≡ suc (m + n) = omega arith in
      rw (z, s) (ap (λ l. f k ∷ l) (spread_more f (suc k) m n))

  pub spread_snoc : (f : ℕ → A) (k n : ℕ) → spread f k (n + 1) ≡ spread f k n ++ f (k + n) ∷ []
  spread_snoc f k n = spread_more f k n 1

  -- its first n, and what follows its first j
  pub take_spread : (f : ℕ → A) (k n m : ℕ) → n ≤ m → take n (spread f k m) ≡ spread f k n
  take_spread f k zero m h = refl
  take_spread f k (suc n) zero h = absurd (omega arith)
  take_spread f k (suc n) (suc m) h = ap (λ l. f k ∷ l) (take_spread f (suc k) n m (le_of_suc-le-suc h))

  pub drop_spread : (f : ℕ → A) (j k n : ℕ) → drop j (spread f k n) ≡ spread f (k + j) (n - j)
  drop_spread f zero k n = simp (add-zero, sub-zero)
  drop_spread f (suc j) k zero = let z : zero - suc j ≡ 0 = omega arith in rw z
  drop_spread f (suc j) k (suc n) =
      let a : suc k + j ≡ k + suc j = omega arith in
      let b : n - j ≡ suc n - suc j = omega arith in
      drop_spread f j (suc k) n ∙ rw (a, b)

  -- from another number on
  pub spread_shift : (f : ℕ → A) (a k n : ℕ) → spread (λ i. f (a + i)) k n ≡ spread f (a + k) n
  spread_shift f a k zero = refl
  spread_shift f a k (suc n) =
      let z : a + suc k ≡ suc (a + k) = omega arith in
      ap (λ l. f (a + k) ∷ l) (spread_shift f a (suc k) n ∙ rw z)

  pub map_spread : {B : Type 0} (g : A → B) (f : ℕ → A) (k n : ℕ) → map g (spread f k n) ≡ spread (λ i. g (f i)) k n
  map_spread g f k zero = refl
  map_spread g f k (suc n) = ap (λ l. g (f k) ∷ l) (map_spread g f (suc k) n)

  -- a part of a list is what stands at each of its places
  pub part_spread : (w : List A) (d : A) (a n : ℕ) → a + n ≤ length w → take n (drop a w) ≡ spread (λ i. get_or w i d) a n
  part_spread w d a zero h = refl
  part_spread w d a (suc n) h = rw (drop-cons w a d (omega arith)) (ap (λ l. get_or w a d ∷ l) (part_spread w d (suc a) n (omega arith)))

  -- and so is the whole
  pub spread_list : (l : List A) (d : A) → spread (λ i. get_or l i d) 0 (length l) ≡ l
  spread_list l d = sym (part_spread l d 0 (length l) (omega arith)) ∙ take-length l

-- ---- a sum

pub sum_next : (f : ℕ → ℕ) (n : ℕ) → sum_below f (n + 1) ≡ sum_below f n + f n
unfolding sum_below
sum_next f n = rw add-one

pub sum_same : (f g : ℕ → ℕ) (n : ℕ) → ((i : ℕ) → i < n → f i ≡ g i) → sum_below f n ≡ sum_below g n
unfolding sum_below
sum_same f g zero h = refl
sum_same f g (suc n) h = rw (sum_same f g n (λ i l. h i (omega arith)), h n (omega arith))

pub sum_mono : (f : ℕ → ℕ) (m n : ℕ) → m ≤ n → sum_below f m ≤ sum_below f n
unfolding sum_below
sum_mono f m zero h = let e : m ≡ 0 = omega arith in rw e (omega arith)
sum_mono f m (suc n) h = elim (dec_lt m (suc n)) [
  | yes l ↦ omega (arith, sum_mono f m n (le_of_suc-le-suc l))
  | no l ↦ let e : m ≡ suc n = omega arith in rw e (omega arith)
]

pub sum_bound : (f : ℕ → ℕ) (b n : ℕ) → ((i : ℕ) → i < n → f i ≤ b) → sum_below f n ≤ b * n
unfolding sum_below
sum_bound f b zero h = omega arith
sum_bound f b (suc n) h = omega (arith, mul-suc b n, h n (omega arith), sum_bound f b n (λ i l. h i (omega arith)))

-- ---- a limit

pub at_most_at : (limit : ℕ) (l : List ℕ) (i : ℕ) → at_most limit l ≡ true → i < length l → get_or l i 0 ≤ limit
unfolding at_most
at_most_at limit [] i e h = absurd (omega arith)
at_most_at limit (a ∷ l) zero e h = leb-true a limit (and_left (leb a limit) _ e)
at_most_at limit (a ∷ l) (suc i) e h = at_most_at limit l i (and_right (leb a limit) _ e) (le_of_suc-le-suc h)

pub at_most_intro : (limit : ℕ) (l : List ℕ) → ((i : ℕ) → i < length l → get_or l i 0 ≤ limit) → at_most limit l ≡ true
unfolding at_most
at_most_intro limit [] h = refl
at_most_intro limit (a ∷ l) h = rw (le-leb a limit (h 0 (omega arith))) (at_most_intro limit l (λ i k. h (suc i) (omega arith)))

pub at_most_append : (limit : ℕ) (a b : List ℕ) → at_most limit a ≡ true → at_most limit b ≡ true → at_most limit (a ++ b) ≡ true
unfolding at_most
at_most_append limit [] b e f = f
at_most_append limit (x ∷ a) b e f = rw (and_left (leb x limit) _ e) (at_most_append limit a b (and_right (leb x limit) _ e) f)

-- ---- rows end to end

module _ {A B : Type 0} (g : A → List B) where
  pub flat_map_one : (x : A) → flat_map g (x ∷ []) ≡ g x
  unfolding flat_map
  flat_map_one x = append-nil (g x)

  -- where each row is w long
  pub length_rows : (w : ℕ) (l : List A) → ((x : A) → x ∈ l → length (g x) ≡ w) → length (flat_map g l) ≡ w * length l
  unfolding flat_map
  length_rows w [] h = omega arith
  length_rows w (x ∷ l) h =
      rw (length-append (g x) (flat_map g l), h x (Memᴰ.head refl), length_rows w l (λ y m. h y (Memᴰ.tail m)), mul-suc w (length l)) (omega arith)

  -- column c of row k
  pub get_or_rows : (w : ℕ) (l : List A) (d : A) (z : B) (k c : ℕ) → ((x : A) → x ∈ l → length (g x) ≡ w) → k < length l → c < w → get_or (flat_map g l) (w * k + c) z ≡ get_or (g (get_or l k d)) c z
  unfolding flat_map
  get_or_rows w [] d z k c h p q = absurd (omega arith)
  get_or_rows w (x ∷ l) d z zero c h p q =
      let n = h x (Memᴰ.head refl) in
      let e : w * 0 + c ≡ c = omega arith in
      rw e (get_or-append (g x) (flat_map g l) z c (omega arith))
  get_or_rows w (x ∷ l) d z (suc k) c h p q =
      let n = h x (Memᴰ.head refl) in
      let e : w * suc k + c ≡ length (g x) + (w * k + c) = omega (arith, mul-suc w k) in
      rw e (get_or-append-add (g x) (flat_map g l) (w * k + c) z ∙ get_or_rows w l d z k c (λ y m. h y (Memᴰ.tail m)) (le_of_suc-le-suc p) q)
