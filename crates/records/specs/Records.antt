-- House records in bytes: 01, "House records and the program `walk`". Assumes nothing.
use Rattle.std.specs.Prelude.{◌≡◌, refl, Bool, true, false, ◌&&◌, List, [], ◌∷◌, ℕ, ◌+◌, ◌*◌, ◌<◌, length, get_or, take, drop, leb, ltb}
use Rattle.records.specs.declared.Record.{Record}

-- "A kind byte, then its body": how many bytes each number of a body has, three numbers at the most, by kind from 0 on
abbrev pub width_table : List ℕ
width_table =
    0 ∷ 0 ∷ 0  -- there is no kind 0
    ∷ 1 ∷ 4 ∷ 0  -- "1 sheet ..: ranking 1 byte, stamp 4."
    ∷ 1 ∷ 0 ∷ 0  -- "2 direct style: origin 1."
    ∷ 1 ∷ 0 ∷ 0  -- "3 group: origin 1."
    ∷ 0 ∷ 0 ∷ 0  -- "4 rule: none."
    ∷ 1 ∷ 0 ∷ 0  -- "5 step: combinator 1"
    ∷ 1 ∷ 4 ∷ 0  -- "6 requirement of the last step: which 1 .., id 4."
    ∷ 2 ∷ 1 ∷ 4  -- "7 entry of the last style: property 2, kind 1, number 4."
    ∷ 0 ∷ 0 ∷ 0  -- "8 end of sheet: none."
    ∷ 1 ∷ 4 ∷ 0  -- "9 subject item: as 6."
    ∷ 4 ∷ 0 ∷ 0  -- "10 enter ..: parent 4."
    ∷ 4 ∷ 4 ∷ 0  -- "11 changed: old 4, new 4."
    ∷ 4 ∷ 2 ∷ 0  -- "12 winner: state 4, property 2."
    ∷ []

unfoldable pub width : ℕ → ℕ → ℕ
width kind i = get_or width_table (3 * kind + i) 0

abbrev pub known : ℕ → Bool
known kind = ltb 0 kind && ltb kind 13

-- the kind byte and the body
unfoldable pub size_of : ℕ → ℕ
size_of kind = 1 + (width kind 0 + (width kind 1 + width kind 2))

-- "numbers little-endian": the first byte counts least
unfoldable pub little_endian : List ℕ → ℕ
little_endian [] = 0
little_endian (b ∷ l) = b + 256 * little_endian l

abbrev pub number_at : List ℕ → ℕ → ℕ → ℕ
number_at bytes at n = little_endian (take n (drop at bytes))

abbrev pub kind_of : List ℕ → ℕ
kind_of bytes = get_or bytes 0 0

-- A record at the front of the bytes: not unknown, not cut short
unfoldable pub is_whole : List ℕ → Bool
is_whole bytes = known (kind_of bytes) && leb (size_of (kind_of bytes)) (length bytes)

-- its kind and the numbers of its body, 0 for one that it has not
unfoldable pub record_in : List ℕ → Record
record_in bytes =
    let kind = kind_of bytes in
    record {
      kind = kind;
      first = number_at bytes 1 (width kind 0);
      second = number_at bytes (1 + width kind 0) (width kind 1);
      third = number_at bytes (1 + width kind 0 + width kind 1) (width kind 2);
    }

-- the numbers that are property ids have two bytes
pub record Narrow (r : Record) : Type 0 where
  pub entry : r.kind ≡ 7 → r.first < 65536
  pub winner : r.kind ≡ 12 → r.second < 65536

-- ---- for example: state 258 and property 1, and the same without its last byte

winner_read : record_in (12 ∷ 2 ∷ 1 ∷ 0 ∷ 0 ∷ 1 ∷ 0 ∷ []) ≡ record { kind = 12; first = 258; second = 1; third = 0 }
unfolding record_in width little_endian
winner_read = refl

winner_whole : is_whole (12 ∷ 2 ∷ 1 ∷ 0 ∷ 0 ∷ 1 ∷ 0 ∷ []) ≡ true
unfolding is_whole size_of width
winner_whole = refl

winner_cut : is_whole (12 ∷ 2 ∷ 1 ∷ 0 ∷ 0 ∷ 1 ∷ []) ≡ false
unfolding is_whole size_of width
winner_cut = refl
