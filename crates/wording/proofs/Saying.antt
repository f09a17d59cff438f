-- One text after another in a buffer. Assumes nothing.
use mathlib.Core.Path.{◌≡◌, refl, sym, ap, ◌∙◌}
use mathlib.Core.Option.{Option, none, some}
use mathlib.Core.List.{List, [], ◌∷◌, ◌++◌, flat_map}
use Prim.Native.Nat.{ℕ, suc, ◌+◌, ◌*◌, ◌≤◌, ◌<◌}
use native.Mathlib.Numerals.{add-one}
use native.Mathlib.Omega.{arith}
use lib.ListN.{length, get_or, take, length-append}
use lib.Seq.{length-sets, take-suc, take_all}
use borrow.Author.Tests.{le-leb}
use Rattle.std.specs.Prelude.{Option as Optional, Some, None}
use Rattle.theory.proofs.Lists.{flat_map_append}
use Rattle.theory.proofs.Spreads.{flat_map_one}
use Rattle.theory.specs.Cascade.{Key}
use Rattle.lent.proofs.Placing.{sets_append}
use Rattle.lines.specs.Text.{Laid, LaidNumber}
use Rattle.sheet.specs.Sheets.{style_at, rule_at}
use Rattle.winners.specs.Winners.{Place, style, rule, key_at}
use Rattle.winners.specs.Best.{place_of, place_in, Stands}
use Rattle.winners.specs.declared.Best.{Best}
use Rattle.winners.specs.declared.Source.{Source}
use Rattle.winners.specs.declared.Source.TheVariants as source
use Rattle.wording.specs.Lines.{decimal, spaced, listed, REFUSED, AT, STATE, MATCHED, CHANGED, WINNER, NONE, DIRECT, RULE, SOURCE, END, refused_line, state_line, changed_line, source_text, winner_line, Said}
use Rattle.wording.proofs.Decimal.{digits_are, decimal_short}

-- ---- where it has room

pub laid_said : {text b : List ℕ} {at r : ℕ} {e : List ℕ} → Laid text b at r e → at + length text ≤ length b → Said text b at r e
laid_said {text} {b} {at} l h =
    record {
      next = rw (le-leb (at + length text) (length b) h) at l.next;
      whole = rw (le-leb (at + length text) (length b) h) at l.whole;
    }

module _ {n at r : ℕ} {b e : List ℕ} (l : LaidNumber n b at r e) (h : at + 20 ≤ length b) (k : n < 18446744073709551616) where
  pub number_said : Said (decimal n) b at r e
  number_said = let z = decimal_short 20 n in laid_said (rw (digits_are n l.count l.fewest k) at l.laid) (omega arith)

  pub number_short : r ≤ at + 20
  number_short = let z = decimal_short 20 n in omega (arith, number_said.next)

pub number_same : (n : ℕ) {x at r : ℕ} {b e : List ℕ} → x ≡ n → Said (decimal x) b at r e → Said (decimal n) b at r e
number_same n q s = rw q at s

-- ---- one after another

module _ {a b : List ℕ} {at r : ℕ} {m : List ℕ} (s : Said a b at r m) where
  pub said_then : {c : List ℕ} {r' : ℕ} {e : List ℕ} → Said c m r r' e → Said (a ++ c) b at r' e
  said_then {c} {r'} {e} t =
      record {
        next = omega (arith, s.next, t.next, length-append a c);
        whole = t.whole ∙ rw (s.whole, s.next) (sets_append b at a c);
      }

  pub said_size : length m ≡ length b
  said_size = ap length s.whole ∙ length-sets b at a

-- ---- each number after a space

spaced_more : (list : List ℕ) (i : ℕ) → i < length list → spaced (take (suc i) list) ≡ spaced (take i list) ++ (32 ∷ decimal (get_or list i 0))
unfolding spaced
spaced_more list i h =
    let f : ℕ → List ℕ = λ n. 32 ∷ decimal n in
    ap (flat_map f) (take-suc list i 0 h) ∙ flat_map_append f (take i list) (get_or list i 0 ∷ []) ∙ ap (λ l. flat_map f (take i list) ++ l) (flat_map_one f (get_or list i 0))

-- the first i are said
pub record Spacing (b : List ℕ) (at : ℕ) (list : List ℕ) (i : ℕ) (m : List ℕ) (used : ℕ) : Type 0 where
  pub said : Said (spaced (take i list)) b at used m
  pub bound : used ≤ at + 21 * i
  pub within : i ≤ length list
  pub size : length m ≡ length b

pub spacing_start : (b : List ℕ) (at : ℕ) (list : List ℕ) → Spacing b at list 0 b at
unfolding spaced flat_map
spacing_start b at list = record { said = record { next = omega arith; whole = refl }; bound = omega arith; within = omega arith; size = refl }

module _ {b : List ℕ} {at : ℕ} {list : List ℕ} {i : ℕ} {m : List ℕ} {used : ℕ} (w : Spacing b at list i m used) where
  pub spacing_one : {r used' : ℕ} {m' m'' : List ℕ} → i < length list → Said (32 ∷ []) m used r m' → Said (decimal (get_or list i 0)) m' r used' m'' → used' ≤ r + 20
      → Spacing b at list (i + 1) m'' used'
  spacing_one {r} {used'} {m'} {m''} h s t l =
      record {
        said = rw (add-one i, spaced_more list i h) u;
        bound = omega (arith, s.next, w.bound);
        within = omega arith;
        size = said_size u;
      }
    where
      u : Said (spaced (take i list) ++ (32 ∷ decimal (get_or list i 0))) b at used' m''
      u = said_then w.said (said_then s t)

  pub spacing_end : length list ≤ i → Said (spaced list) b at used m
  spacing_end h = rw (take_all i list h) at w.said

-- ---- the lines

module _ {b : List ℕ} {at : ℕ} where
  pub listed_said : (list : List ℕ) {r₁ r₂ r₃ r₄ : ℕ} {m₁ m₂ m₃ m₄ : List ℕ}
      → Said (decimal (length list)) b at r₁ m₁ → Said (58 ∷ []) m₁ r₁ r₂ m₂ → Said (spaced list) m₂ r₂ r₃ m₃ → Said END m₃ r₃ r₄ m₄ → Said (listed list) b at r₄ m₄
  listed_said list p q r s = said_then p (said_then q (said_then r s))

  pub refused_said : (n offset : ℕ) {r₁ r₂ r₃ r₄ r₅ : ℕ} {m₁ m₂ m₃ m₄ m₅ : List ℕ}
      → Said REFUSED b at r₁ m₁ → Said (decimal n) m₁ r₁ r₂ m₂ → Said AT m₂ r₂ r₃ m₃ → Said (decimal offset) m₃ r₃ r₄ m₄ → Said END m₄ r₄ r₅ m₅
      → Said (refused_line n offset) b at r₅ m₅
  unfolding refused_line
  refused_said n offset p q r s t = said_then p (said_then q (said_then r (said_then s t)))

  pub state_said : (child : ℕ) (list : List ℕ) {r₁ r₂ r₃ r₄ : ℕ} {m₁ m₂ m₃ m₄ : List ℕ}
      → Said STATE b at r₁ m₁ → Said (decimal child) m₁ r₁ r₂ m₂ → Said MATCHED m₂ r₂ r₃ m₃ → Said (listed list) m₃ r₃ r₄ m₄ → Said (state_line child list) b at r₄ m₄
  unfolding state_line
  state_said child list p q r s = said_then p (said_then q (said_then r s))

  pub changed_said : (list : List ℕ) {r₁ r₂ : ℕ} {m₁ m₂ : List ℕ} → Said CHANGED b at r₁ m₁ → Said (listed list) m₁ r₁ r₂ m₂ → Said (changed_line list) b at r₂ m₂
  unfolding changed_line
  changed_said list p q = said_then p q

  -- ---- the winner

  pub direct_said : (index : ℕ) {r₁ r₂ : ℕ} {m₁ m₂ : List ℕ} → Said DIRECT b at r₁ m₁ → Said (decimal index) m₁ r₁ r₂ m₂ → Said (DIRECT ++ decimal index) b at r₂ m₂
  direct_said index p q = said_then p q

  pub rule_said : (number index : ℕ) {r₁ r₂ r₃ r₄ : ℕ} {m₁ m₂ m₃ m₄ : List ℕ}
      → Said RULE b at r₁ m₁ → Said (decimal number) m₁ r₁ r₂ m₂ → Said SOURCE m₂ r₂ r₃ m₃ → Said (decimal index) m₃ r₃ r₄ m₄
      → Said (RULE ++ (decimal number ++ (SOURCE ++ decimal index))) b at r₄ m₄
  rule_said number index p q r s = said_then p (said_then q (said_then r s))

-- the text of whatever source stands there
abbrev pub Tells : Optional Best → List ℕ → ℕ → ℕ → List ℕ → Type 0
Tells won b at r e = (w : List ℕ) (ranking p : ℕ) (o : Option Place) → Stands w ranking p o won → Said (source_text w o) b at r e

abbrev source_in : Option Key → ℕ
source_in none = 0
source_in (some k) = k.source

module _ {won : Optional Best} {b : List ℕ} {at r : ℕ} {e : List ℕ} where
  pub nobody_said : won ≡ None → Said NONE b at r e → Tells won b at r e
  nobody_said q s w ranking p o u = let f : o ≡ none = sym u.place ∙ ap place_in q in rw f s

  module _ {x : Best} (i : won ≡ Some x) where
    pub style_said : {d : ℕ} → x.source ≡ source.Style d → Said (DIRECT ++ decimal x.key.source_index) b at r e → Tells won b at r e
    unfolding key_at
    style_said {d} q s w ranking p o u =
        let f : o ≡ some (style d) = sym u.place ∙ ap place_in i ∙ ap (λ (y : Source). some (place_of y)) q in
        let g : x.key.source_index ≡ (style_at w d).source = rw (f, i) at (ap source_in u.key) in
        rw (f, ← g) s

    pub listed_rule_said : {n : ℕ} → x.source ≡ source.Rule n → Said (RULE ++ (decimal n ++ (SOURCE ++ decimal x.key.source_index))) b at r e → Tells won b at r e
    unfolding key_at
    listed_rule_said {n} q s w ranking p o u =
        let f : o ≡ some (rule n) = sym u.place ∙ ap place_in i ∙ ap (λ (y : Source). some (place_of y)) q in
        let g : x.key.source_index ≡ (rule_at w n).source = rw (f, i) at (ap source_in u.key) in
        rw (f, ← g) s

pub winner_said : {won : Optional Best} {b : List ℕ} (property : ℕ) {at r₁ r₂ r₃ r₄ : ℕ} {m₁ m₂ m₃ m₄ : List ℕ}
    → Said WINNER b at r₁ m₁ → Said (decimal property) m₁ r₁ r₂ m₂ → Tells won m₂ r₂ r₃ m₃ → Said END m₃ r₃ r₄ m₄
    → (w : List ℕ) (ranking p : ℕ) (o : Option Place) → Stands w ranking p o won → Said (winner_line w property o) b at r₄ m₄
unfolding winner_line
winner_said property p q r s w ranking pr o u = said_then p (said_then q (said_then (r w ranking pr o u) s))
