-- A number's fewest digits are its decimal text. Assumes nothing.
use mathlib.Core.Path.{◌≡◌, sym, ap, ◌∙◌}
use mathlib.Core.List.{[], ◌∷◌, ◌++◌}
use Prim.Native.Nat.{ℕ, zero, suc, ◌+◌, ◌-◌, ◌*◌, ◌/◌, ◌%◌, ◌^◌, ◌≤◌, ◌<◌}
use native.Mathlib.Nat.{pow-suc, pow-le-pow_right, mod-eq_of_lt, one-le-pow}
use native.Mathlib.Decide.{dec_lt}
use native.Mathlib.Omega.{arith}
use lib.ListN.{length, length-append}
use borrow.Author.Tests.{lt-ltb, le-ltb}
use Rattle.io.specs.Digits.{hex_digit_ascii, last_digits, IsDigitCount}
use Rattle.wording.specs.Lines.{decimal_in, decimal}

-- ---- how long it is

module _ (k n : ℕ) where
  decimal_one : n < 10 → decimal_in (suc k) n ≡ hex_digit_ascii n ∷ []
  unfolding decimal_in
  decimal_one h = rw (lt-ltb n 10 h)

  decimal_more : 10 ≤ n → decimal_in (suc k) n ≡ decimal_in k (n / 10) ++ hex_digit_ascii (n % 10) ∷ []
  unfolding decimal_in
  decimal_more h = rw (le-ltb n 10 h)

pub decimal_short : (k n : ℕ) → length (decimal_in k n) ≤ k
decimal_short zero n = unfold decimal_in in (omega arith)
decimal_short (suc k) n = elim (dec_lt n 10) [
  | yes h ↦ rw (decimal_one k n h) (omega arith)
  | no h ↦
      let l = decimal_short k (n / 10) in
      rw (decimal_more k n (omega arith), length-append (decimal_in k (n / 10)) (hex_digit_ascii (n % 10) ∷ [])) (omega arith)
]

-- ---- what it is

module _ (n k : ℕ) (few : IsDigitCount 10 1 n (suc (suc k))) where
  least : 10 ^ suc k ≤ n
  least = let z : suc (suc k) - 1 ≡ suc k = omega arith in rw z at (few.2 (omega arith))

  fewest_rest : IsDigitCount 10 1 (n / 10) (suc k)
  fewest_rest =
      let g = least in
      let b = few.1 in
      let p : 10 ^ suc (suc k) ≡ 10 ^ suc k * 10 = pow-suc 10 (suc k) in
      let q : 10 ^ suc k ≡ 10 ^ k * 10 = pow-suc 10 k in
      let z : suc k - 1 ≡ k = omega arith in
      (omega arith, omega arith, λ l. rw z (omega arith))

  fewest_ten : 10 ≤ n
  fewest_ten =
      let g = least in
      let q : 10 ^ suc k ≡ 10 ^ k * 10 = pow-suc 10 k in
      let o = one-le-pow k 10 (omega arith) in
      omega arith

digits_decimal : (k j n : ℕ) → IsDigitCount 10 1 n (suc k) → last_digits 10 (suc k) n ≡ decimal_in (j + suc k) n
digits_decimal zero j n (_, b, _) =
    let h : n < 10 = b in
    let z : suc j ≡ j + suc zero = omega arith in
    ap (λ d. hex_digit_ascii d ∷ []) (mod-eq_of_lt h) ∙ sym (decimal_one j n h) ∙ ap (λ i. decimal_in i n) z
digits_decimal (suc k) j n f =
    let z : suc (j + suc k) ≡ j + suc (suc k) = omega arith in
    ap (λ l. l ++ hex_digit_ascii (n % 10) ∷ []) (digits_decimal k j (n / 10) (fewest_rest n k f)) ∙ sym (decimal_more (j + suc k) n (fewest_ten n k f)) ∙ ap (λ i. decimal_in i n) z

-- 10^20 is more than any number of 64 bits
fewest_twenty : (n k : ℕ) → IsDigitCount 10 1 n k → n < 18446744073709551616 → k ≤ 20
fewest_twenty n k (_, _, f) h = elim (dec_lt 20 k) [
  | yes l ↦ let g = f (omega arith) in let p = pow-le-pow_right {n = 10} (omega arith) {i = 20} {j = k - 1} (omega arith) in absurd (omega arith)
  | no l ↦ omega arith
]

pub digits_are : (n k : ℕ) → IsDigitCount 10 1 n k → n < 18446744073709551616 → last_digits 10 k n ≡ decimal n
digits_are n zero (l, _, _) h = absurd (omega arith)
digits_are n (suc k) f h =
    let l = fewest_twenty n (suc k) f h in
    let e : 20 - suc k + suc k ≡ 20 = omega arith in
    digits_decimal k (20 - suc k) n f ∙ ap (λ j. decimal_in j n) e
