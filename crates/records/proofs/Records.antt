-- Laws of house records in bytes, and the ways through the functions that read them. Assumes nothing.
use mathlib.Core.Path.{◌≡◌, refl, sym, ◌∙◌}
use mathlib.Core.Bool.{Bool, true, false, not}
use mathlib.Core.List.{List, [], ◌∷◌, ◌++◌}
use Prim.Native.Nat.{ℕ, zero, suc, ◌+◌, ◌*◌, ◌%◌, ◌^◌, ◌≤◌, ◌<◌}
use native.Mathlib.Omega.{arith}
use native.Mathlib.Decide.{dec_lt}
use lib.ListN.{length, get_or, drop, length-append, length-drop, drop_of_length-le, get_or-eq_default, get_or-append}
use lib.Seq.{take-nil, drop-cons, take-append-le, drop-append-le}
use lib.Dec.{leb, ltb}
use borrow.Author.Tests.{ltb-true, leb-true, le-leb, lt-ltb, not-true, not-false}
use types.Run.{OneOf}
use Rattle.theory.proofs.Lists.{and_left, and_right}
use Rattle.lent.specs.All.{all_below}
use Rattle.lent.proofs.All.{all_at}
use Rattle.lines.specs.Text.{word_at}
use Rattle.records.specs.declared.Record.{Record}
use Rattle.records.specs.Records.{width_table, width, known, size_of, little_endian, number_at, kind_of, is_whole, record_in, Narrow}

-- ---- widths and sizes

table_most : (j : ℕ) → get_or width_table j 0 ≤ 4
table_most j = elim (dec_lt j 39) [
  | yes h ↦ leb-true (get_or width_table j 0) 4 (all_at (λ i. leb (get_or width_table i 0) 4) 39 j h (unfold all_below in refl))
  | no h ↦ let g : 39 ≤ j = omega arith in let e = get_or-eq_default width_table 0 g in omega (arith, e)
]

pub width_most : (kind i : ℕ) → width kind i ≤ 4
unfolding width
width_most kind i = table_most (3 * kind + i)

pub width_is : (kind i : ℕ) → get_or width_table (3 * kind + i) 0 ≡ width kind i
unfolding width
width_is kind i = refl

pub width_past : (kind i : ℕ) → 13 ≤ kind → width kind i ≡ 0
unfolding width
width_past kind i h = let g : 39 ≤ 3 * kind + i = omega arith in get_or-eq_default width_table 0 g

pub size_some : (kind : ℕ) → 1 ≤ size_of kind
unfolding size_of
size_some kind = omega arith

size_known : all_below 13 (λ k. leb (size_of k) 9) ≡ true
unfolding all_below size_of width
size_known = refl

size_past : (kind : ℕ) → 13 ≤ kind → size_of kind ≤ 9
unfolding size_of
size_past kind h = omega (arith, width_past kind 0 h, width_past kind 1 h, width_past kind 2 h)

pub size_most : (kind : ℕ) → size_of kind ≤ 9
size_most kind = elim (dec_lt kind 13) [
  | yes h ↦ leb-true (size_of kind) 9 (all_at (λ k. leb (size_of k) 9) 13 kind h size_known)
  | no h ↦ size_past kind (omega arith)
]

-- a size is the sum of the widths and the kind byte
pub size_is : (kind a b c : ℕ) → a ≡ width kind 0 → b ≡ width kind 1 → c ≡ width kind 2 → 1 + (a + (b + c)) ≡ size_of kind
unfolding size_of
size_is kind a b c p q r = rw (p, q, r)

pub size_bound : (kind a b c : ℕ) → a ≡ width kind 0 → b ≡ width kind 1 → c ≡ width kind 2 → 1 + (a + (b + c)) ≤ 9
size_bound kind a b c p q r = rw (size_is kind a b c p q r) (size_most kind)

-- ---- kinds

pub known_most : (kind : ℕ) → known kind ≡ true → kind ≤ 12
known_most kind e = let h = ltb-true kind 13 (and_right (ltb 0 kind) (ltb kind 13) e) in omega (arith, h)

pub known_none : (kind : ℕ) → kind ≡ 0 → false ≡ known kind
known_none kind e = rw e refl

pub known_some : (kind : ℕ) → (kind ≡ 0 → ⊥) → ltb kind 13 ≡ known kind
known_some kind n = rw (lt-ltb 0 kind (omega arith))

-- ---- numbers of bytes

pub number_none : (bytes : List ℕ) (at : ℕ) → number_at bytes at 0 ≡ 0
unfolding little_endian
number_none bytes at = refl

-- a number's first byte, and the number after it; a byte past the end is 0
pub number_next : (bytes : List ℕ) (at n : ℕ) → number_at bytes at (suc n) ≡ get_or bytes at 0 + 256 * number_at bytes (at + 1) n
unfolding little_endian
number_next bytes at n = elim (dec_lt at (length bytes)) [
  | yes h ↦ let s : at + 1 ≡ suc at = omega arith in rw (s, drop-cons bytes at 0 h)
  | no h ↦ let g : length bytes ≤ at = omega arith in
      let k : length bytes ≤ at + 1 = omega arith in
      rw (drop_of_length-le bytes g, drop_of_length-le bytes k, get_or-eq_default bytes 0 g, take-nil n)
]

pub number_one : (bytes : List ℕ) (at : ℕ) → number_at bytes at 1 ≡ get_or bytes at 0
number_one bytes at = let e = number_next bytes at 0 in let z = number_none bytes (at + 1) in omega (arith, e, z)

number_two : (bytes : List ℕ) (at : ℕ) → number_at bytes at 2 ≡ get_or bytes at 0 + 256 * get_or bytes (at + 1) 0
number_two bytes at = number_next bytes at 1 ∙ rw number_one

number_three : (bytes : List ℕ) (at : ℕ) → number_at bytes at 3 ≡ get_or bytes at 0 + 256 * (get_or bytes (at + 1) 0 + 256 * get_or bytes (at + 2) 0)
number_three bytes at = let s : at + 1 + 1 ≡ at + 2 = omega arith in number_next bytes at 2 ∙ rw (number_two, s)

number_four : (bytes : List ℕ) (at : ℕ)
    → number_at bytes at 4 ≡ get_or bytes at 0 + 256 * (get_or bytes (at + 1) 0 + 256 * (get_or bytes (at + 2) 0 + 256 * get_or bytes (at + 3) 0))
number_four bytes at = let s : at + 1 + 1 ≡ at + 2 = omega arith in let t : at + 1 + 2 ≡ at + 3 = omega arith in number_next bytes at 3 ∙ rw (number_three, s, t)

-- each is a byte
abbrev pub Bytes : List ℕ → Type 0
Bytes bytes = (i : ℕ) → get_or bytes i 0 < 256

-- the low n bytes of the word there
pub number_low : (bytes : List ℕ) → Bytes bytes → (at n : ℕ) → n ≤ 4 → number_at bytes at n ≡ word_at bytes at % 256 ^ n
unfolding word_at
number_low bytes small at zero h = omega (arith, number_none bytes at)
number_low bytes small at (suc zero) h = omega (arith, number_one bytes at, small at)
number_low bytes small at (suc (suc zero)) h = omega (arith, number_two bytes at, small at, small (at + 1))
number_low bytes small at (suc (suc (suc zero))) h = omega (arith, number_three bytes at, small at, small (at + 1), small (at + 2))
number_low bytes small at (suc (suc (suc (suc zero)))) h = omega (arith, number_four bytes at, small at, small (at + 1), small (at + 2), small (at + 3))
number_low bytes small at (suc (suc (suc (suc (suc n))))) h = absurd (omega arith)

pub number_half : (bytes : List ℕ) → Bytes bytes → (at : ℕ) → number_at bytes at 2 < 65536
number_half bytes small at = omega (arith, number_two bytes at, small at, small (at + 1))

pub number_is : (bytes : List ℕ) → Bytes bytes → (at n w r : ℕ) → n ≤ 4 → w ≡ word_at bytes at → r ≡ w % 256 ^ n → r ≡ number_at bytes at n
number_is bytes small at n w r h p q = q ∙ rw p (sym (number_low bytes small at n h))

pub kind_is : (bytes : List ℕ) → Bytes bytes → (r : ℕ) → r ≡ number_at bytes 0 1 → (r ≡ kind_of bytes) × (r ≤ 255)
kind_is bytes small r e = let k = e ∙ number_one bytes 0 in (k, omega (arith, k, small 0))

-- how the low bytes of a word are taken
module _ (w n : ℕ) where
  pub low_none : n ≡ 0 → 0 ≡ w % 256 ^ n
  low_none e = rw e (omega arith)

  pub low_one : n ≡ 1 → w % 256 ≡ w % 256 ^ n
  low_one e = rw e refl

  pub low_two : n ≡ 2 → w % 65536 ≡ w % 256 ^ n
  low_two e = rw e refl

  pub low_three : n ≡ 3 → w % 16777216 ≡ w % 256 ^ n
  low_three e = rw e refl

  pub low_whole : n ≤ 4
      → (OneOf (0 ∷ []) n → ⊥)
      → (OneOf (1 ∷ []) n → ⊥)
      → (OneOf (2 ∷ []) n → ⊥)
      → (OneOf (3 ∷ []) n → ⊥)
      → w < 4294967296
      → w ≡ w % 256 ^ n
  low_whole l n0 n1 n2 n3 h = let e : n ≡ 4 = four l n0 n1 n2 n3 in rw e (omega arith)
    where
      four : n ≤ 4 → (n ≡ 0 → ⊥) → (n ≡ 1 → ⊥) → (n ≡ 2 → ⊥) → (n ≡ 3 → ⊥) → n ≡ 4
      four l n0 n1 n2 n3 = omega arith

-- ---- a record at the front

pub whole_unknown : (bytes : List ℕ) (kind : ℕ) (k : Bool) → kind ≡ kind_of bytes → k ≡ known kind → not k ≡ true → false ≡ is_whole bytes
unfolding is_whole
whole_unknown bytes kind k e f h = let g = sym f ∙ not-true k h in rw (← e, g)

whole_test : (bytes : List ℕ) (kind : ℕ) → kind ≡ kind_of bytes → known kind ≡ true → leb (size_of kind) (length bytes) ≡ is_whole bytes
unfolding is_whole
whole_test bytes kind e h = rw (← e, h)

pub flag_known : (kind : ℕ) (k : Bool) → k ≡ known kind → not k ≡ false → kind ≤ 12
flag_known kind k f h = known_most kind (sym f ∙ not-false k h)

pub whole_size : (bytes : List ℕ) (kind size : ℕ) (k : Bool)
    → kind ≡ kind_of bytes
    → k ≡ known kind
    → not k ≡ false
    → size ≡ size_of kind
    → leb size (length bytes) ≡ is_whole bytes
whole_size bytes kind size k e f h z = rw z (whole_test bytes kind e (sym f ∙ not-false k h))

module _ (bytes : List ℕ) (w : is_whole bytes ≡ true) where
  pub whole_known : known (kind_of bytes) ≡ true
  unfolding is_whole
  whole_known = and_left (known (kind_of bytes)) (leb (size_of (kind_of bytes)) (length bytes)) w

  pub whole_room : size_of (kind_of bytes) ≤ length bytes
  unfolding is_whole
  whole_room = leb-true (size_of (kind_of bytes)) (length bytes) (and_right (known (kind_of bytes)) (leb (size_of (kind_of bytes)) (length bytes)) w)

pub whole_kind : (bytes : List ℕ) (kind : ℕ) → kind ≡ kind_of bytes → is_whole bytes ≡ true → kind ≤ 12
whole_kind bytes kind e w = rw e (known_most (kind_of bytes) (whole_known bytes w))

pub record_is : (bytes : List ℕ) (kind a b c first second third : ℕ)
    → kind ≡ kind_of bytes
    → a ≡ width kind 0
    → b ≡ width kind 1
    → c ≡ width kind 2
    → first ≡ number_at bytes 1 a
    → second ≡ number_at bytes (1 + a) b
    → third ≡ number_at bytes (1 + a + b) c
    → record { kind = kind; first = first; second = second; third = third } ≡ record_in bytes
unfolding record_in
record_is bytes kind a b c first second third k p q r x y z = rw (x, y, z, p, q, r, k)

narrow_in : (bytes : List ℕ) → Bytes bytes → Narrow (record_in bytes)
unfolding record_in width
narrow_in bytes small = record {
  entry = λ e. rw e (number_half bytes small 1);
  winner = λ e. rw e (number_half bytes small 5);
}

-- what is said of a record that was read
pub read_narrow : (bytes : List ℕ) → Bytes bytes → (r : Record) → r ≡ record_in bytes → Narrow r
read_narrow bytes small r e = rw e (narrow_in bytes small)

-- ---- bytes more after them

pub kind_more : (bytes more : List ℕ) → 1 ≤ length bytes → kind_of (bytes ++ more) ≡ kind_of bytes
kind_more bytes more h = get_or-append bytes more 0 0 h

number_more : (bytes more : List ℕ) (at n : ℕ) → at + n ≤ length bytes → number_at (bytes ++ more) at n ≡ number_at bytes at n
number_more bytes more at n h =
    rw (drop-append-le at bytes more (omega arith), take-append-le n (drop at bytes) more (rw length-drop (omega arith)))

whole_kind_more : (bytes more : List ℕ) → is_whole bytes ≡ true → kind_of (bytes ++ more) ≡ kind_of bytes
whole_kind_more bytes more w = kind_more bytes more (omega (arith, size_some (kind_of bytes), whole_room bytes w))

pub whole_more : (bytes more : List ℕ) → is_whole bytes ≡ true → is_whole (bytes ++ more) ≡ true
whole_more bytes more w =
    let k = whole_kind_more bytes more w in
    let room = whole_room bytes w in
    sym (whole_test (bytes ++ more) (kind_of bytes) (sym k) (whole_known bytes w))
    ∙ le-leb (size_of (kind_of bytes)) (length (bytes ++ more)) (rw length-append (omega (arith, room)))

pub record_more : (bytes more : List ℕ) → is_whole bytes ≡ true → record_in (bytes ++ more) ≡ record_in bytes
record_more bytes more w =
    let k = kind_of bytes in
    let room : 1 + (width k 0 + (width k 1 + width k 2)) ≤ length bytes = unfold size_of in whole_room bytes w in
    sym (record_is (bytes ++ more) k (width k 0) (width k 1) (width k 2) (number_at bytes 1 (width k 0)) (number_at bytes (1 + width k 0) (width k 1))
    (number_at bytes (1 + width k 0 + width k 1) (width k 2))
    (sym (whole_kind_more bytes more w)) refl refl refl
    (sym (number_more bytes more 1 (width k 0) (omega (arith, room))))
    (sym (number_more bytes more (1 + width k 0) (width k 1) (omega (arith, room))))
    (sym (number_more bytes more (1 + width k 0 + width k 1) (width k 2) (omega (arith, room)))))
    ∙ (unfold record_in in refl)
