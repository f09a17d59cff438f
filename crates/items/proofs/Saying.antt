-- The ways through the lines' functions, as laws. Assumes nothing.
use mathlib.Core.Path.{◌≡◌, refl, ap, ◌∙◌}
use mathlib.Core.Bool.{cond}
use mathlib.Core.List.{List, [], ◌∷◌}
use Prim.Native.Nat.{ℕ, ◌+◌, ◌-◌, ◌≤◌, ◌<◌}
use native.Mathlib.Numerals.{add-one}
use native.Mathlib.Omega.{arith}
use lib.ListN.{length, get_or, take, drop, drop_of_length-le}
use lib.Seq.{drop-cons}
use lib.Dec.{leb}
use Rattle.screen.specs.Labelled.{Labelled}
use Rattle.items.specs.Said.{KEPT, SaidNumber, SaidNumbers, SaidLine}

pub said_number : (n w : ℕ) (before : List ℕ) (at used r : ℕ) (after : List ℕ) → w ≡ n → Labelled (32 ∷ []) w before at used after → r ≡ cond (leb used KEPT) used 0 → SaidNumber n before at r after
said_number n w before at used r after f l e = record { used = used; laid = rw (← f) l; next = e }

pub said_equal : (tag : List ℕ) (n m : ℕ) (before : List ℕ) (at r : ℕ) (after : List ℕ) → n ≡ m → SaidLine tag (n ∷ []) before at r after → SaidLine tag (m ∷ []) before at r after
said_equal tag n m before at r after e s = rw (← e) s

-- ---- numbers by value

pub first_equal : (l : List ℕ) (n m : ℕ) → l ≡ n ∷ 0 ∷ 0 ∷ 0 ∷ [] → n ≡ m → l ≡ m ∷ 0 ∷ 0 ∷ 0 ∷ []
first_equal l n m e f = e ∙ ap (λ (k : ℕ). k ∷ 0 ∷ 0 ∷ 0 ∷ []) f

pub said_taken : (tag list part : List ℕ) (count : ℕ) (before : List ℕ) (at r : ℕ) (after : List ℕ) → part ≡ take (count - 0) (drop 0 list) → SaidLine tag part before at r after
    → SaidLine tag (take count list) before at r after
said_taken tag list part count before at r after e s = let z : count - 0 ≡ count = omega arith in let f : part ≡ take count list = e ∙ ap (λ (k : ℕ). take k list) z in rw (← f) s

-- ---- numbers: what is said of the rest is said of all

pub record Saying (list before : List ℕ) (at i : ℕ) (now : List ℕ) (used : ℕ) : Type 0 where
  pub size : length now ≡ length before
  pub all : (r : ℕ) (after : List ℕ) → SaidNumbers (drop i list) now used r after → SaidNumbers list before at r after

pub saying_start : (list before : List ℕ) (at : ℕ) → Saying list before at 0 before at
saying_start list before at = record { size = refl; all = λ r after s. s }

module _ {list before : List ℕ} {at i : ℕ} {now : List ℕ} {used : ℕ} (w : Saying list before at i now used) where
  pub saying_one : i < length list → (next : ℕ) (then : List ℕ) → length then ≡ length now → SaidNumber (get_or list i 0) now used next then → Saying list before at (i + 1) then next
  saying_one h next then l s =
      rw (add-one i) record {
        size = l ∙ w.size;
        all = λ r after t. w.all r after (rw (drop-cons list i 0 h) (SaidNumbers.more s t));
      }

  pub saying_done : length list ≤ i → SaidNumbers list before at used now
  saying_done h = w.all used now (rw (drop_of_length-le list h) SaidNumbers.none)
