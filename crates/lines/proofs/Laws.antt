-- The ways through the functions, as laws. Assumes nothing.
use mathlib.Core.Path.{◌≡◌, refl, sym, ◌∙◌}
use mathlib.Core.List.{List}
use Prim.Native.Nat.{ℕ, suc, ◌+◌, ◌*◌, ◌/◌, ◌≤◌, ◌<◌, min}
use native.Mathlib.Numerals.{add-one}
use native.Mathlib.Omega.{arith}
use lib.ListN.{length, get_or, take, drop, set, length-set, get_or-eq_default, take-append-drop}
use lib.Seq.{sets, take-suc-set, drop-set-lt, drop-drop}
use borrow.Author.Tests.{le-leb, lt-leb}
use Rattle.io.specs.Digits.{last_digits, IsDigitCount}
use Rattle.std.specs.Ordering.{ord_min, nat_cmp}
use Rattle.std.proofs.lemmas.Grind.{common_steps}
use Rattle.lines.specs.Text.{Laid, LaidNumber, word_at, first_words, Read}

-- ---- bytes and words

pub byte_past : (bytes : List ℕ) (at : ℕ) → length bytes ≤ at → 0 ≡ get_or bytes at 0
byte_past bytes at h = sym (get_or-eq_default bytes 0 h)

pub word_past : (bytes : List ℕ) (at : ℕ) → length bytes ≤ at → 0 ≡ word_at bytes at
unfolding word_at
word_past bytes at h =
    rw (← byte_past bytes at h, ← byte_past bytes (at + 1) (omega arith), ← byte_past bytes (at + 2) (omega arith), ← byte_past bytes (at + 3) (omega arith))

pub word_is : (bytes : List ℕ) (at a b c d : ℕ) → a ≡ get_or bytes at 0 → b ≡ get_or bytes (at + 1) 0 → c ≡ get_or bytes (at + 2) 0 → d ≡ get_or bytes (at + 3) 0
    → a + b * 256 + (c + d * 256) * 65536 ≡ word_at bytes at
unfolding word_at
word_is bytes at a b c d p q r s = rw (p, q, r, s)

-- ---- words into a buffer

-- the first i words are laid, and the rest of the buffer d is as it was
pub record Reading (bytes d : List ℕ) (i : ℕ) (e : List ℕ) : Type 0 where
  pub whole_words : i ≤ length bytes / 4
  pub within : i ≤ length d
  pub size : length e ≡ length d
  pub done : take i e ≡ first_words bytes i
  pub rest : drop i e ≡ drop i d

pub reading_start : (bytes d : List ℕ) → Reading bytes d 0 d
reading_start bytes d = record { whole_words = omega arith; within = omega arith; size = refl; done = unfold first_words in refl; rest = refl }

module _ {bytes d : List ℕ} {i : ℕ} {e : List ℕ} (w : Reading bytes d i e) where
  pub reading_one : i < length e → i < length bytes / 4 → (v : ℕ) → v ≡ word_at bytes (i * 4) → Reading bytes d (i + 1) (set e i v)
  reading_one h k v q =
      rw add-one record {
        whole_words = omega arith;
        within = omega (arith, w.size);
        size = length-set e i v ∙ w.size;
        done = take-suc-set e i v h ∙ rw (w.done, q) (unfold first_words in refl);
        rest = drop-set-lt (suc i) e i v (omega arith) ∙ further i e d w.rest;
      }
    where
      further : (i : ℕ) (e d : List ℕ) → drop i e ≡ drop i d → drop (suc i) e ≡ drop (suc i) d
      further i e d h = let s : suc i ≡ i + 1 = omega arith in rw (s, ← drop-drop 1 i e, ← drop-drop 1 i d, h)

  -- as many as both have
  pub reading_end : (n : ℕ) → n ≡ ord_min nat_cmp (length bytes / 4) (length d) → i ≤ n → n ≤ i → Read bytes d n e
  reading_end n m a b = rw (n_is) record { count = sym n_is ∙ m ∙ least _ _; whole = sym (take-append-drop i e) ∙ rw (w.done, w.rest) }
    where
      n_is : n ≡ i
      n_is = omega arith

      least : (a b : ℕ) → ord_min nat_cmp a b ≡ min a b
      least a b = grind (arith, common_steps)

-- ---- text

module _ (words before : List ℕ) (at : ℕ) where
  pub laid_not : length before < at + length words → Laid words before at at before
  laid_not h = record { next = rw (lt-leb (at + length words) (length before) h); whole = rw (lt-leb (at + length words) (length before) h) }

  pub laid_is : (after : List ℕ) → at + length words ≤ length before → after ≡ sets before at words → Laid words before at (at + length words) after
  laid_is after h e =
      record {
        next = rw (le-leb (at + length words) (length before) h);
        whole = rw (le-leb (at + length words) (length before) h) e;
      }

pub laid_number : (n k : ℕ) (text before : List ℕ) (at r : ℕ) (after : List ℕ) → IsDigitCount 10 1 n k → text ≡ last_digits 10 k n → Laid text before at r after → LaidNumber n before at r after
laid_number n k text before at r after f e l = record { count = k; fewest = f; laid = rw e at l }
