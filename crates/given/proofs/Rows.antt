-- Laws of single rows: a step's tags, its ids and its row; entries in three columns. Assumes nothing.
use mathlib.Core.Path.{◌≡◌, refl, sym, ap, ◌∙◌}
use mathlib.Core.Bool.{true}
use mathlib.Core.List.{List, [], ◌∷◌, ◌++◌, map}
use Prim.Native.Nat.{ℕ, zero, suc, ◌+◌, ◌*◌, ◌≤◌}
use native.Mathlib.Nat.{le_of_suc-le-suc}
use native.Mathlib.Omega.{arith}
use lib.ListN.{length, get_or, take, drop, replicate}
use lib.Seq.{sets}
use mir.Syntax.{w32}
use mir.Val.{Fits}
use borrow.Author.Tests.{eq-eqb, ne_eqb}
use Rattle.theory.specs.Lists.{sort, spread}
use Rattle.theory.proofs.Lists.{sort_length}
use Rattle.theory.proofs.Spreads.{map_spread, spread_same, part_spread, spread_list}
use Rattle.idset.specs.Buffers.{Holds}
use Rattle.idset.proofs.Buffers.{held_length}
use Rattle.selector.specs.Rows.{tag_of, tag_number, words_from, row_at, comb_of}
use Rattle.selector.specs.Checks.{row_fits}
use Rattle.selector.specs.Weighing.{is_set}
use Rattle.selector.proofs.WeighLaws.{pseudos_few, classes_few}
use Rattle.style.specs.Entries.{Entry, entries_of}
use Rattle.sheet.specs.Layout
use Rattle.sheet.specs.Laying.{code_of, id_words, step_words, lay_entries}
use Rattle.given.specs.Leaves.{part_of}

-- ---- a tag

pub number_none : (w flag tag : ℕ) → w ≡ flag → w ≡ 0 → 0 ≡ tag_number (tag_of flag tag)
number_none w flag tag e z = rw (eq-eqb flag 0 (sym e ∙ z))

pub number_set : (w flag tag n : ℕ) → w ≡ flag → (w ≡ 0 → ⊥) → n ≡ tag → n ≡ tag_number (tag_of flag tag)
number_set w flag tag n e h f = rw (ne_eqb flag 0 (λ q. h (e ∙ q))) f

-- ---- a row of ids

take_zeros : (n m : ℕ) → n ≤ m → replicate {A = ℕ} n 0 ≡ take n (replicate {A = ℕ} m 0)
take_zeros zero m h = refl
take_zeros (suc n) zero h = absurd (omega arith)
take_zeros (suc n) (suc m) h = ap (λ l. 0 ∷ l) (take_zeros n m (le_of_suc-le-suc h))

zeros_after : (l : List ℕ) (n m : ℕ) → length l ≤ n → n ≤ m → l ++ drop (length l) (replicate {A = ℕ} n 0) ≡ take n (l ++ replicate {A = ℕ} m 0)
zeros_after [] n m h g = take_zeros n m g
zeros_after (a ∷ l) zero m h g = absurd (omega arith)
zeros_after (a ∷ l) (suc n) m h g = ap (λ r. a ∷ r) (zeros_after l n m (le_of_suc-le-suc h) (omega arith))

-- a buffer of eight zeros that holds a list, word by word
ids_spelled : {l e : List ℕ} {r : ℕ} → Holds l (replicate 8 0) r e → length l ≤ 8 → id_words l ≡ spread (λ k. get_or e k 0) 0 8
ids_spelled {l} {e} {r} h g =
    let n : length e ≡ 8 = held_length h (omega (arith, h.count)) in
    let w : e ≡ id_words l = h.whole ∙ rw h.count (zeros_after l 8 8 g (omega arith)) in
    sym w ∙ rw n at (sym (spread_list e 0))

pub ids_fit_lem : (l d e : List ℕ) (r : ℕ) → Holds (sort l) d r e → length l ≤ 8 → Fits w32 r
ids_fit_lem l d e r h g = record { fits = omega (arith, h.count, sort_length l) }

code_back : (code : ℕ) → code ≤ 1 → code_of (comb_of code) ≡ code
code_back zero h = refl
code_back (suc zero) h = refl
code_back (suc (suc code)) h = absurd (omega arith)

-- ---- a step's row

module _ (rows : List ℕ) (at code : ℕ) (p : row_fits 8 rows at ≡ true) (g : code ≤ 1) (l m c s : List ℕ) (i j a t b u : ℕ)
    (e : l ≡ words_from rows (at + 6) (get_or rows (at + 4) 0))
    (f : m ≡ words_from rows (at + 14) (get_or rows (at + 5) 0))
    (h : Holds (sort l) (replicate 8 0) i c)
    (k : Holds (sort m) (replicate 8 0) j s) where
  pub row_spelled : a ≡ is_set (tag_of (get_or rows at 0) (get_or rows (at + 1) 0))
      → t ≡ tag_number (tag_of (get_or rows at 0) (get_or rows (at + 1) 0))
      → b ≡ is_set (tag_of (get_or rows (at + 2) 0) (get_or rows (at + 2 + 1) 0))
      → u ≡ tag_number (tag_of (get_or rows (at + 2) 0) (get_or rows (at + 2 + 1) 0))
      → a ∷ t ∷ b ∷ u ∷ i ∷ j ∷ (spread (λ n. get_or c n 0) 0 8 ++ (spread (λ n. get_or s n 0) 0 8 ++ code ∷ [])) ≡ step_words (part_of rows at code)
  unfolding step_words row_at
  row_spelled w x y z =
      let q : at + 2 + 1 ≡ at + 3 = omega arith in
      let v = classes_few rows at l p e in
      let o = pseudos_few rows at m p f in
      rw (w, x, y, z, q, code_back code g, ← e, ← f, ids_spelled h (omega (arith, sort_length l)), ids_spelled k (omega (arith, sort_length m)), h.count, k.count)

-- ---- entries

module _ (properties kinds numbers : List ℕ) (n : ℕ) where
  columns : (g : Entry → ℕ) (l : List ℕ)
      → ((k : ℕ) → g (record { property = get_or properties k 0; kind = get_or kinds k 0; number = get_or numbers k 0 }) ≡ get_or l k 0)
      → n ≤ length l
      → map g (entries_of properties kinds numbers n) ≡ take n l
  unfolding entries_of
  columns g l e h = map_spread g _ 0 n ∙ spread_same _ (λ k. get_or l k 0) 0 n (λ k x y. e k) ∙ sym (part_spread l 0 0 n (omega arith))

  module _ (base room e : ℕ) (w x y z : List ℕ)
      (p : (base ≤ 100000) × (room ≤ 4096) × (e ≤ 4096) × (n ≤ length properties) × (n ≤ length kinds) × (n ≤ length numbers)) where
    pub entries_put : x ≡ sets w (base + e) (take n properties)
        → y ≡ sets x (base + room + e) (take n kinds)
        → z ≡ sets y (base + 2 * room + e) (take n numbers)
        → z ≡ lay_entries base room e (entries_of properties kinds numbers n) w
    unfolding lay_entries
    entries_put f g h =
        h ∙ rw (g, f, columns (λ d. d.property) properties (λ d. refl) p.3, columns (λ d. d.kind) kinds (λ d. refl) p.4, columns (λ d. d.number) numbers (λ d. refl) p.5)

-- ---- rows

pub row_placed : (w x row : List ℕ) (b base n k : ℕ) → b ≡ base → x ≡ sets w (b + n * k) row → x ≡ sets w (base + n * k) row
row_placed w x row b base n k e f = f ∙ rw e

pub step_placed : (w x row row' : List ℕ) (k s : ℕ) → row ≡ row' → k ≡ s → x ≡ sets w (Layout.STEP + 23 * k) row → x ≡ sets w (Layout.step_place s) row'
step_placed w x row row' k s e f g = g ∙ rw (e, f)
