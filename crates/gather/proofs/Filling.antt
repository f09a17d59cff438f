-- Laws of lists that are filled from the front: what is filled once something was added, and the last rule's three words. Assumes nothing.
use mathlib.Core.Path.{◌≡◌, ap, ◌∙◌}
use mathlib.Core.List.{List, [], ◌∷◌, ◌++◌}
use Prim.Native.Nat.{ℕ, ◌+◌, ◌-◌, ◌*◌, ◌≤◌, ◌<◌}
use native.Mathlib.Omega.{arith}
use native.Mathlib.Decide.{dec_lt}
use lib.ListN.{length, get_or, take, drop, set, length-append, length-set}
use lib.Seq.{sets, sets-eq, length-take-le, take_at, take-set-lt, get_or-take, get_or-append-add, get_or-set_same, get_or-set_other}
use Rattle.records.specs.Rows.{empty_row}
use Rattle.gather.specs.Opened.{one_more}

-- ---- more at the end

pub take_grown : (l : List ℕ) (n : ℕ) (x : List ℕ) → n + length x ≤ length l → take (n + length x) (sets l n x) ≡ take n l ++ x
take_grown l n x h =
    let e : length (take n l) ≡ n = length-take-le n l (omega arith) in
    rw (sets-eq x l n h) (take_at (take n l ++ x) (drop (n + length x) l) (n + length x) (length-append (take n l) x ∙ ap (λ k. k + length x) e))

pub rules_grown : (l : List ℕ) (n : ℕ) → 3 * (n + 1) ≤ length l → take (3 * (n + 1)) (sets l (3 * n) (0 ∷ 0 ∷ 0 ∷ [])) ≡ take (3 * n) l ++ 0 ∷ 0 ∷ 0 ∷ []
rules_grown l n h = let z : 3 * (n + 1) ≡ 3 * n + 3 = omega arith in rw z (take_grown l (3 * n) (0 ∷ 0 ∷ 0 ∷ []) (omega arith))

pub steps_grown : (l : List ℕ) (n : ℕ) → 22 * (n + 1) ≤ length l → take (22 * (n + 1)) (sets l (22 * n) (empty_row 8)) ≡ take (22 * n) l ++ empty_row 8
steps_grown l n h = let z : 22 * (n + 1) ≡ 22 * n + 22 = omega arith in rw z (take_grown l (22 * n) (empty_row 8) (omega arith))

pub one_grown : (l : List ℕ) (n a : ℕ) → n < length l → take (n + 1) (set l n a) ≡ take n l ++ a ∷ []
one_grown l n a h = take_grown l n (a ∷ []) (omega arith)

-- ---- the last rule's words

-- of a list of rules, word i of the last
abbrev pub last : ℕ → List ℕ → ℕ
last i l = get_or l (length l - 3 + i) 0

pub last_in : (l : List ℕ) (n i : ℕ) → 3 * n ≤ length l → 1 ≤ n → i < 3 → last i (take (3 * n) l) ≡ get_or l (3 * n - 3 + i) 0
last_in l n i h k j = rw (length-take-le (3 * n) l h) (get_or-take (3 * n) l (3 * n - 3 + i) 0 (omega arith))

-- of a new rule
pub last_new : (a : List ℕ) (i : ℕ) → last i (a ++ 0 ∷ 0 ∷ 0 ∷ []) ≡ get_or (0 ∷ 0 ∷ 0 ∷ []) i 0
last_new a i =
    let e : length (a ++ 0 ∷ 0 ∷ 0 ∷ []) - 3 + i ≡ length a + i = omega (arith, length-append a (0 ∷ 0 ∷ 0 ∷ [])) in
    rw e (get_or-append-add a (0 ∷ 0 ∷ 0 ∷ []) i 0)

pub last_more : (a : List ℕ) (i : ℕ) → i < 3 → 3 ≤ length a → last i (one_more i a) ≡ last i a + 1
last_more a i h g =
    rw (length-set a (length a - 3 + i) (get_or a (length a - 3 + i) 0 + 1))
    (get_or-set_same a (length a - 3 + i) (get_or a (length a - 3 + i) 0 + 1) 0 (omega arith))

pub last_kept : (a : List ℕ) (i j : ℕ) → (j ≡ i → ⊥) → last j (one_more i a) ≡ last j a
last_kept a i j h =
    rw (length-set a (length a - 3 + i) (get_or a (length a - 3 + i) 0 + 1))
    (get_or-set_other a (length a - 3 + i) (length a - 3 + j) (get_or a (length a - 3 + i) 0 + 1) 0 (λ e. h (omega arith)))

-- one more, counted in the lent list
pub take_more : (l : List ℕ) (n i : ℕ) → 3 * n ≤ length l → 1 ≤ n → i < 3
    → take (3 * n) (set l (3 * n - 3 + i) (get_or l (3 * n - 3 + i) 0 + 1)) ≡ one_more i (take (3 * n) l)
take_more l n i h k j =
    take-set-lt (3 * n) l (3 * n - 3 + i) (get_or l (3 * n - 3 + i) 0 + 1) (omega arith)
    ∙ rw (length-take-le (3 * n) l h, get_or-take (3 * n) l (3 * n - 3 + i) 0 (omega arith))

-- with no rule there is no last one
last_none : (l : List ℕ) (n : ℕ) → n ≡ 0 → last 0 (take (3 * n) l) ≡ 0
last_none l n e = rw e

-- the steps of n rules
pub steps_few : (l : List ℕ) (n k : ℕ) → k ≤ 8 * (n - 1) + last 0 (take (3 * n) l) → last 0 (take (3 * n) l) ≤ 8 → k ≤ 8 * n
steps_few l n k h g = elim (dec_lt 0 n) [
  | yes p ↦ omega arith
  | no p ↦ omega (arith, last_none l n (omega arith))
]
