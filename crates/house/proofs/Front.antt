-- What stands at the front of bytes, as `front` tells it. Assumes nothing.
use mathlib.Core.Path.{◌≡◌, refl, sym, ap, ◌∙◌}
use mathlib.Core.Bool.{Bool, cond, true, false, not}
use mathlib.Core.List.{List, ◌++◌}
use Prim.Native.Nat.{ℕ, ◌+◌, ◌-◌, ◌≤◌, ◌<◌}
use native.Mathlib.Omega.{arith}
use lib.ListN.{length, take, drop, length-append, length-drop}
use borrow.Author.Tests.{not-true, not-false}
use Rattle.records.specs.declared.Record.{Record}
use Rattle.records.specs.Records.{known, kind_of, size_of, is_whole, record_in}
use Rattle.records.proofs.Records.{size_some, whole_room, whole_kind}
use Rattle.house.specs.declared.Found.{Found}
use Rattle.house.specs.declared.Found.TheVariants.{Whole, Short, Unknown}
use Rattle.house.specs.Memory.{Below, Cut, found_of}

-- as `front` tells it
abbrev pub front_of : List ℕ → Found
front_of bytes = found_of (known (kind_of bytes)) (is_whole bytes)

front_by : (k w : Bool) → found_of k w ≡ Whole → w ≡ true
front_by true true e = refl
front_by true false e = cc
front_by false w e = cc

front_none : (k w : Bool) → found_of k w ≡ Unknown → k ≡ false
front_none true true e = cc
front_none true false e = cc
front_none false w e = refl

front_one : (k w : Bool) → found_of k w ≡ Short → (k ≡ true) × (w ≡ false)
front_one true true e = cc
front_one true false e = (refl, refl)
front_one false w e = cc

module _ (bytes : List ℕ) (found : Found) (f : found ≡ front_of bytes) where
  pub front_whole : found ≡ Whole → is_whole bytes ≡ true
  front_whole e = front_by (known (kind_of bytes)) (is_whole bytes) (sym f ∙ e)

  pub front_unknown : found ≡ Unknown → known (kind_of bytes) ≡ false
  front_unknown e = front_none (known (kind_of bytes)) (is_whole bytes) (sym f ∙ e)

  pub front_cut : found ≡ Short → Cut bytes
  front_cut e = let (k, w) = front_one (known (kind_of bytes)) (is_whole bytes) (sym f ∙ e) in record { short = w; begun = λ _. k }

-- no byte is no record
pub none_cut : (bytes : List ℕ) → length bytes ≤ 0 → Cut bytes
none_cut bytes h = record { short = by (is_whole bytes) refl; begun = λ l. absurd (omega arith) }
  where
    by : (b : Bool) → is_whole bytes ≡ b → b ≡ false
    by true e = absurd (omega (arith, whole_room bytes e, size_some (kind_of bytes)))
    by false e = refl

-- a piece from a place on, as the code takes it
abbrev pub rested : List ℕ → ℕ → List ℕ
rested input at = take (length input - at) (drop at input)

-- where the place goes with what was taken, the input ends where it did
pub rest_below : (start offset at : ℕ) (input more : List ℕ) → at ≤ length input → offset ≡ start + at → Below start (input ++ more) → Below offset (drop at input ++ more)
rest_below start offset at input more h e l = rw (length-append, length-drop) (omega (arith, length-append input more))

-- ---- the record at the front, as the code reads it

record_kind : (bytes : List ℕ) → (record_in bytes).kind ≡ kind_of bytes
unfolding record_in
record_kind bytes = refl

module _ (bytes : List ℕ) (item : Record) (e : item ≡ record_in bytes) where
  item_kind : item.kind ≡ kind_of bytes
  item_kind = rw e (record_kind bytes)

  pub item_size : (size : ℕ) → size ≡ size_of item.kind → size ≡ size_of (kind_of bytes)
  item_size size z = z ∙ ap size_of item_kind

  module _ (w : is_whole bytes ≡ true) where
    pub item_known : item.kind ≤ 12
    item_known = whole_kind bytes item.kind item_kind w

    -- the place after it is within the bytes
    pub item_room : (size at m : ℕ) → size ≡ size_of item.kind → at ≡ m → m + length bytes < 18446744073709551616 → at + size < 18446744073709551616
    item_room size at m z p h = omega (arith, item_size size z, whole_room bytes w)

-- the ways through `front`
module _ (bytes : List ℕ) (kind : ℕ) (k : Bool) (q : kind ≡ kind_of bytes) (e : k ≡ known kind) where
  is_known : k ≡ known (kind_of bytes)
  is_known = e ∙ rw q

  pub found_none : not k ≡ true → Unknown ≡ front_of bytes
  found_none h = rw (← is_known, not-true k h)

  pub found_cut : (w : Bool) → not k ≡ false → w ≡ is_whole bytes → not w ≡ true → Short ≡ front_of bytes
  found_cut w h f g = rw (← is_known, ← f, not-false k h, not-true w g)

  pub found_whole : (w : Bool) → not k ≡ false → w ≡ is_whole bytes → not w ≡ false → Whole ≡ front_of bytes
  found_whole w h f g = rw (← is_known, ← f, not-false k h, not-false w g)
