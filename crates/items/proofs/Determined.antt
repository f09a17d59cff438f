-- Any two outcomes that the contracts of `lines`, `screen` and `items` allow are equal, answer and buffer: what some of them name in between, the rest
-- determines. Assumes nothing.
use mathlib.Core.Path.{◌≡◌, refl, sym, ap, ◌∙◌}
use mathlib.Core.Bool.{Bool}
use mathlib.Core.List.{List, [], ◌∷◌, ◌++◌}
use Prim.Native.Nat.{ℕ, ◌-◌, ◌^◌, ◌%◌, ◌≤◌, ◌<◌}
use native.Mathlib.Nat.{pow-le-pow_right}
use native.Mathlib.Decide.{dec_lt}
use native.Mathlib.Omega.{arith}
use lib.ListN.{length, drop, get_or}
use Rattle.std.specs.Prelude.{min}
use Rattle.std.proofs.lemmas.List.{ext_get_or}
use Rattle.lines.specs.Text.{Laid, LaidNumber, first_words, Read}
use Rattle.screen.specs.Labelled.{Labelled}
use Rattle.screen.specs.Ends.{Ends}
use Rattle.items.specs.Said.{kept, SaidEnd, SaidNumber, SaidNumbers, SaidLine, IsSaid}
use Rattle.items.specs.declared.said.Said.{Said}

-- ---- a count of digits that is the fewest is no more than one that holds the number

no_more : (n k j : ℕ) → (1 < k → 10 ^ (k - 1) ≤ n) → 1 ≤ j → n < 10 ^ j → k ≤ j
no_more n k j f l h = elim (dec_lt j k) [
  | yes m ↦ let g = f (omega arith) in let p = pow-le-pow_right {n = 10} (omega arith) {i = j} {j = k - 1} (omega arith) in absurd (omega arith)
  | no m ↦ omega arith
]

-- ---- lines: `text`, `number`, `words`; the last is `items::body`'s too

module _ {before : List ℕ} {at r r' : ℕ} {after after' : List ℕ} where
  pub text_determined : {words : List ℕ} → Laid words before at r after → Laid words before at r' after' → (r ≡ r') × (after ≡ after')
  text_determined p q = (p.next ∙ sym q.next, p.whole ∙ sym q.whole)

  pub number_determined : {n : ℕ} → LaidNumber n before at r after → LaidNumber n before at r' after' → (r ≡ r') × (after ≡ after')
  number_determined {n} p q =
      let a = no_more n p.count q.count p.fewest.2 q.fewest.0 q.fewest.1 in
      let b = no_more n q.count p.count q.fewest.2 p.fewest.0 p.fewest.1 in
      let e : p.count ≡ q.count = omega arith in
      text_determined (rw e at p.laid) q.laid

pub words_determined : {bytes before : List ℕ} {r r' : ℕ} {after after' : List ℕ} → Read bytes before r after → Read bytes before r' after' → (r ≡ r') × (after ≡ after')
words_determined {bytes} {before} p q =
    let e = p.count ∙ sym q.count in
    (e, p.whole ∙ ap (λ (k : ℕ). first_words bytes k ++ drop k before) e ∙ sym q.whole)

-- ---- screen: `labelled`, `ends`

module _ {before : List ℕ} {at r r' : ℕ} {after after' : List ℕ} where
  pub labelled_determined : {label : List ℕ} {n : ℕ} → Labelled label n before at r after → Labelled label n before at r' after' → (r ≡ r') × (after ≡ after')
  labelled_determined p q = let (e, f) = text_determined p.first q.first in number_determined (rw (e, f) at p.second) q.second

pub ends_determined : {too_long atEnd : Bool} {rest before : List ℕ} {r r' : Bool} {after after' : List ℕ}
    → Ends too_long atEnd rest before r after → Ends too_long atEnd rest before r' after' → (r ≡ r') × (after ≡ after')
ends_determined p q = (p.answer ∙ sym q.answer, p.buffer ∙ sym q.buffer)

-- ---- items: `end`, `number`, `numbers`; `line`, `one`, `two`, `three`, `refused`, and `said::line`

module _ {before : List ℕ} {at r r' : ℕ} {after after' : List ℕ} where
  pub said_end_determined : SaidEnd before at r after → SaidEnd before at r' after' → (r ≡ r') × (after ≡ after')
  said_end_determined p q = let (e, f) = text_determined p.laid q.laid in (p.next ∙ ap kept e ∙ sym q.next, f)

  pub said_number_determined : {n : ℕ} → SaidNumber n before at r after → SaidNumber n before at r' after' → (r ≡ r') × (after ≡ after')
  said_number_determined p q = let (e, f) = labelled_determined p.laid q.laid in (p.next ∙ ap kept e ∙ sym q.next, f)

pub said_numbers_determined : (list : List ℕ) {before : List ℕ} {at r r' : ℕ} {after after' : List ℕ}
    → SaidNumbers list before at r after → SaidNumbers list before at r' after' → (r ≡ r') × (after ≡ after')
said_numbers_determined [] SaidNumbers.none SaidNumbers.none = (refl, refl)
said_numbers_determined (n ∷ l) (SaidNumbers.more s t) (SaidNumbers.more s' t') =
    let (e, f) = said_number_determined s s' in
    said_numbers_determined l (rw (e, f) at t) t'

pub said_line_determined : {tag list before : List ℕ} {at r r' : ℕ} {after after' : List ℕ}
    → SaidLine tag list before at r after → SaidLine tag list before at r' after' → (r ≡ r') × (after ≡ after')
said_line_determined {list = list} p q =
    let (e, f) = text_determined p.first q.first in
    let (g, h) = said_numbers_determined list (rw (e, f) at p.numbers) q.numbers in
    said_end_determined (rw (g, h) at p.last) q.last

-- ---- `Said::from` an answer; `halves::halves`. `halves::half` says its answer

pub said_from_determined : (numbers : List ℕ) (a b : Said) → IsSaid numbers a.count a.list → IsSaid numbers b.count b.list → a ≡ b
said_from_determined numbers a b p q = λ i. record { count = (p.0 ∙ sym q.0) i; list = (p.1 ∙ sym q.1) i }

-- its clauses
pub record Halved (words before : List ℕ) (r : ℕ) (after : List ℕ) : Type 0 where
  pub count : r ≡ min (length words) (length before)
  pub halved : (k : ℕ) → k < r → get_or after k 0 ≡ get_or words k 0 % 65536
  pub kept : (k : ℕ) → r ≤ k → get_or after k 0 ≡ get_or before k 0
  pub as_long : length after ≡ length before

pub halves_determined : {words before : List ℕ} {r r' : ℕ} {after after' : List ℕ} → Halved words before r after → Halved words before r' after' → (r ≡ r') × (after ≡ after')
halves_determined {r = r} {r' = r'} {after = after} {after' = after'} p q =
    let e = p.count ∙ sym q.count in (
      e,
      ext_get_or 0 after after' (p.as_long ∙ sym q.as_long) (λ k h. elim (dec_lt k r) [
        | yes m ↦ p.halved k m ∙ sym (q.halved k (omega (arith, e, m)))
        | no m ↦ p.kept k (omega (arith, m)) ∙ sym (q.kept k (omega (arith, e, m)))
      ]),
    )
