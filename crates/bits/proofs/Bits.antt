-- Laws of the bits of a number: what joining, powers and shifts do to them, how many there are and which is lowest. Assumes nothing.
use mathlib.Core.Path.{◌≡◌, refl, sym, ap, ap₂, ◌∙◌}
use mathlib.Core.Logic.{◌↔◌, ⊎_elim}
use mathlib.Core.Bool.{Bool, true, false, ◌||◌, true≢false}
use mathlib.Core.List.{List, [], ◌∷◌, ◌++◌, map, append-nil, append_assoc, map-append}
use Prim.Native.Nat.{ℕ, zero, suc, ◌+◌, ◌/◌, ◌%◌, ◌^◌, ◌≤◌, ◌<◌}
use native.Mathlib.Nat.{mod-lt, div-eq_of_lt, lt_of_lt_of_le, pow-suc, mul-div_cancel, mul-mod_left}
use native.Mathlib.Omega.{arith}
use lib.ListN.{length, length-append, length-map}
use lib.Dec.{eqb, eqb-zero-suc, eqb-suc-zero, eqb-suc-suc}
use lib.Pow.{pow_pos, pow_mono, shr-shr}
use lib.Bits.{bit_and, bit_or, and_mask, or_shr, or_mod}
use lib.Count.{ones, ones_step, under, count_trailing_zeros}
use Rattle.theory.specs.Lists.{◌∈◌, only, select}
use Rattle.theory.proofs.Lists.{le_or_lt, T-is, select_in}
use Rattle.bits.specs.Bits.{bit, bits_in}

-- ---- a bit, by the lowest digit and the rest

bit_up : (n k : ℕ) → bit n (suc k) ≡ bit (n / 2) k
unfolding bit
bit_up n k = sym (ap (λ m. eqb (m % 2) 1) (shr-shr n 1 k) ∙ ap (λ j. eqb (n / 2 ^ j % 2) 1) (omega arith))

bit_low : (n : ℕ) → bit n 0 ≡ eqb (n % 2) 1
unfolding bit
bit_low n = let e : n / 1 ≡ n = omega arith in ap (λ m. eqb (m % 2) 1) e

pub bit_zero : (k : ℕ) → bit 0 k ≡ false
unfolding bit
bit_zero k = ap (λ m. eqb (m % 2) 1) (div-eq_of_lt (pow_pos k))

-- a number has no bit past its width
pub bit_past : (w n k : ℕ) → n < 2 ^ w → w ≤ k → bit n k ≡ false
unfolding bit
bit_past w n k h l = ap (λ m. eqb (m % 2) 1) (div-eq_of_lt (lt_of_lt_of_le h (pow_mono l)))

pub bit_high : (n k : ℕ) → n < 2 ^ 32 → 32 ≤ k → bit n k ≡ false
bit_high = bit_past 32

-- `(n >> k) & 1 == 1`
pub bit_tested : (n k : ℕ) → eqb (bit_and (n / 2 ^ k) 1) 1 ≡ bit n k
unfolding bit
bit_tested n k = ap (λ m. eqb m 1) (and_mask (n / 2 ^ k) 1)

-- one bit alone
pub bit_power : (j k : ℕ) → bit (2 ^ j) k ≡ eqb j k
bit_power zero zero = bit_low 1
bit_power zero (suc k) = bit_up 1 k ∙ bit_zero k ∙ sym (eqb-zero-suc k)
bit_power (suc j) zero = bit_low (2 ^ suc j) ∙ ap (λ m. eqb (m % 2) 1) (pow-suc 2 j) ∙ ap (λ m. eqb m 1) (mul-mod_left (2 ^ j) 2) ∙ sym (eqb-suc-zero j)
bit_power (suc j) (suc k) =
    bit_up (2 ^ suc j) k ∙ ap (λ m. bit m k) (ap (λ m. m / 2) (pow-suc 2 j) ∙ mul-div_cancel (2 ^ j) (omega arith)) ∙ bit_power j k ∙ sym (eqb-suc-suc j k)

-- joined: a bit of one or of the other
digit_or : (a b : ℕ) → a < 2 → b < 2 → eqb (bit_or a b) 1 ≡ (eqb a 1 || eqb b 1)
digit_or zero b h l = refl
digit_or (suc zero) zero h l = refl
digit_or (suc zero) (suc zero) h l = refl
digit_or (suc zero) (suc (suc b)) h l = absurd (omega arith)
digit_or (suc (suc a)) b h l = absurd (omega arith)

pub bit_or_lem : (a b k : ℕ) → bit (bit_or a b) k ≡ (bit a k || bit b k)
unfolding bit
bit_or_lem a b k =
    ap (λ m. eqb (m % 2) 1) (or_shr a b k) ∙ ap (λ m. eqb m 1) (or_mod (a / 2 ^ k) (b / 2 ^ k) 1)
    ∙ digit_or (a / 2 ^ k % 2) (b / 2 ^ k % 2) (mod-lt (a / 2 ^ k) (omega arith)) (mod-lt (b / 2 ^ k) (omega arith))

-- ---- the numbers selected, by the first and the rest

pub select_same : (f g : ℕ → Bool) (n : ℕ) → ((k : ℕ) → f k ≡ g k) → select f n ≡ select g n
unfolding select
select_same f g zero h = refl
select_same f g (suc n) h = ap₂ (λ (l : List ℕ) (b : Bool). l ++ only b n) (select_same f g n h) (h n)

only_up : (b : Bool) (n : ℕ) → only b (suc n) ≡ map suc (only b n)
only_up true n = refl
only_up false n = refl

pub select_first : (f : ℕ → Bool) (n : ℕ) → select f (suc n) ≡ only (f 0) 0 ++ map suc (select (λ k. f (suc k)) n)
unfolding select
select_first f zero = sym (append-nil (only (f 0) 0))
select_first f (suc n) =
    ap₂ (λ (l m : List ℕ). l ++ m) (select_first f n) (only_up (f (suc n)) n)
    ∙ append_assoc (only (f 0) 0) _ _ ∙ ap (λ (l : List ℕ). only (f 0) 0 ++ l) (sym (map-append suc (select (λ k. f (suc k)) n) (only (f (suc n)) n)))

bits_first : (w n : ℕ) → select (bit n) (suc w) ≡ only (eqb (n % 2) 1) 0 ++ map suc (select (bit (n / 2)) w)
bits_first w n =
    select_first (bit n) w
    ∙ ap₂ (λ (b : Bool) (l : List ℕ). only b 0 ++ map suc l) (bit_low n) (select_same (λ k. bit n (suc k)) (bit (n / 2)) w (bit_up n))

-- ---- how many bits, none, and the lowest

half_below : (w n : ℕ) → n < 2 ^ suc w → n / 2 < 2 ^ w
half_below w n h = let e = pow-suc 2 w in omega arith

digit_length : (d : ℕ) → d < 2 → length (only (eqb d 1) 0) ≡ d
digit_length zero h = refl
digit_length (suc zero) h = refl
digit_length (suc (suc d)) h = absurd (omega arith)

pub ones_select : (w n : ℕ) → n < 2 ^ w → ones n ≡ length (select (bit n) w)
unfolding ones select
ones_select zero n h = let e : n ≡ 0 = omega arith in ap ones e
ones_select (suc w) n h =
    ones_step n
    ∙ ap₂ ◌+◌ (sym (digit_length (n % 2) (omega arith))) (ones_select w (n / 2) (half_below w n h) ∙ sym (length-map (select (bit (n / 2)) w) suc))
    ∙ sym (length-append (only (eqb (n % 2) 1) 0) (map suc (select (bit (n / 2)) w)))
    ∙ ap length (sym (bits_first w n))

pub ones_bits : (n : ℕ) → n < 2 ^ 32 → ones n ≡ length (bits_in n)
unfolding bits_in
ones_bits = ones_select 32

-- the lowest bit of a number that is not 0 comes first
pub trailing_select : (w n : ℕ) → 0 < n → n < 2 ^ w → (l : List ℕ) × (select (bit n) w ≡ count_trailing_zeros w n ∷ l)
unfolding count_trailing_zeros
trailing_select zero n p h = absurd (omega arith)
trailing_select (suc w) n p h = rw (bits_first w n) (go (n % 2) (omega arith) (λ e. trailing_select w (n / 2) (omega arith) (half_below w n h)))
  where
    go : (d : ℕ) → d < 2 → (d ≡ 0 → (l : List ℕ) × (select (bit (n / 2)) w ≡ count_trailing_zeros w (n / 2) ∷ l))
        → (l : List ℕ) × (only (eqb d 1) 0 ++ map suc (select (bit (n / 2)) w) ≡ under d (count_trailing_zeros w (n / 2)) ∷ l)
    go zero b rest = let r = rest refl in (map suc r.0, ap (map suc) r.1)
    go (suc zero) b rest = (map suc (select (bit (n / 2)) w), refl)
    go (suc (suc d)) b rest = absurd (omega arith)

pub trailing_first : (n : ℕ) → 0 < n → n < 2 ^ 32 → (l : List ℕ) × (bits_in n ≡ count_trailing_zeros 32 n ∷ l)
unfolding bits_in
trailing_first = trailing_select 32

-- no bit: the number 0
pub zero_bits : bits_in 0 ≡ []
unfolding bits_in select bit
zero_bits = refl

-- the bits listed are those that are set
pub bits_in_lem : (n k : ℕ) → n < 2 ^ 32 → (k ∈ bits_in n) ↔ (bit n k ≡ true)
unfolding bits_in
bits_in_lem n k h = (
  λ m. (T-is (bit n k)).0 ((select_in (bit n) 32 k).0 m).1,
  λ e. (select_in (bit n) 32 k).1 (⊎_elim (λ l. absurd (true≢false (sym e ∙ bit_high n k h l))) (λ l. l) (le_or_lt 32 k), (T-is (bit n k)).1 e),
)
