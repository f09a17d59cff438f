-- The properties to be asked are no more than the entries of all rules. Assumes nothing.
use mathlib.Core.Path.{◌≡◌, refl, sym, ap, ◌∙◌}
use mathlib.Core.Bool.{Bool, true, false, cond}
use mathlib.Core.List.{List, [], ◌++◌, flat_map, append-nil}
use Prim.Native.Nat.{ℕ, zero, suc, ◌+◌, ◌-◌, ◌≤◌, ◌<◌}
use native.Mathlib.Omega.{arith}
use lib.ListN.{length, get_or, take, length-append, length-take}
use Rattle.theory.specs.Lists.{◌∈◌, Ascending, ascends_from, ascends, at_most, member, only, select, sort, sum_below}
use Rattle.theory.proofs.Lists.{T-is, ascends_is, member_is, flat_map_append, ascending_select, sort_length, sort_ascending}
use Rattle.theory.proofs.Spreads.{flat_map_one, at_most_intro}
use Rattle.lent.specs.Pool.{start_of, list_at}
use Rattle.idset.specs.Buffers.{Holds}
use Rattle.lent.proofs.Pool.{Rising}
use Rattle.idset.proofs.Buffers.{held_take, held_length}
use Rattle.sheet.specs.Layout.{rules_in}
use Rattle.sheet.specs.Sheets.{rule_entry_ends}
use Rattle.sheet.specs.Shape.{sheet_shape}
use Rattle.sheet.proofs.Shaped.{Shaped, shaped, entries_rising}
use Rattle.laid.proofs.Reading.{get_or_in}
use Rattle.winners.specs.Winners.{AreRules}
use Rattle.changeset.proofs.Marks.{sort_join}
use Rattle.changes.specs.Changes.{changed_of}
use Rattle.changes.specs.Asked.{keep, asked, differing, Listed}
use Rattle.changes.specs.Within.{properties_of, properties_without}
use Rattle.changes.proofs.Asked.{each_in, asked_few, changed_asked}

-- an ascending list of numbers below n is what its own test for members selects
selected : (n : ℕ) (l : List ℕ) → Ascending l → ((c : ℕ) → c ∈ l → c < n) → l ≡ select (λ c. member c l) n
selected n l p h = ascending_select (λ c. member c l) n l p (λ c. (λ m. (h c m, (T-is (member c l)).1 ((member_is c l).1 m)), λ k. (member_is c l).0 ((T-is (member c l)).0 k.1)))

-- rows of selected numbers, added up
length_selected : (g : ℕ → List ℕ) (f : ℕ → Bool) (n : ℕ) → length (flat_map g (select f n)) ≡ sum_below (λ r. cond (f r) (length (g r)) 0) n
unfolding select sum_below
length_selected g f zero = unfold flat_map in refl
length_selected g f (suc n) =
    rw (flat_map_append g (select f n) (only (f n) n), length-append (flat_map g (select f n)) (flat_map g (only (f n) n)), length_selected g f n)
    (ap (λ x. sum_below (λ r. cond (f r) (length (g r)) 0) n + x) (at (f n)))
  where
    at : (b : Bool) → length (flat_map g (only b n)) ≡ cond b (length (g n)) 0
    at true = ap length (flat_map_one g n)
    at false = unfold flat_map in refl

sum_two : (f g h : ℕ → ℕ) (n : ℕ) → ((i : ℕ) → f i + g i ≤ h i) → sum_below f n + sum_below g n ≤ sum_below h n
unfolding sum_below
sum_two f g h zero e = omega arith
sum_two f g h (suc n) e = omega (arith, e n, sum_two f g h n e)

-- the lengths of lists end to end add up to the last end
sum_ends : (ends : ℕ → ℕ) (n : ℕ) → Rising n ends → sum_below (λ k. ends k - start_of ends k) n ≡ start_of ends n
unfolding sum_below start_of
sum_ends ends zero up = refl
sum_ends ends (suc n) up = omega (arith, sum_ends ends n (λ k l. up k (omega arith)), up n (omega arith))

-- a rule has no more ids than its place in the pool has room for
properties_length : (w : List ℕ) (r : ℕ) → length (properties_of w r) ≤ rule_entry_ends w r - start_of (rule_entry_ends w) r
unfolding list_at
properties_length w r = rw length-take (omega arith)

-- a rule counts on one side at most
one_side : (l : List ℕ) (n : ℕ) (old new : Bool) → length l ≤ n → cond old (length (cond new [] l)) 0 + cond new (length (cond old [] l)) 0 ≤ n
one_side l n true true h = omega arith
one_side l n true false h = omega arith
one_side l n false true h = omega arith
one_side l n false false h = omega arith

module _ {w : List ℕ} (s : Shaped w) (old new : List ℕ) (a : AreRules w old) (b : AreRules w new) (p : ascends old ≡ true) (q : ascends new ≡ true) where
  without_length : (rules others : List ℕ) → AreRules w rules → ascends rules ≡ true
      → length (properties_without w rules others) ≡ sum_below (λ r. cond (member r rules) (length (cond (member r others) [] (properties_of w r))) 0) (rules_in w)
  unfolding properties_without
  without_length rules others are up =
      let g : ℕ → List ℕ = λ r. cond (member r others) [] (properties_of w r) in
      ap (λ l. length (flat_map g l)) (selected (rules_in w) rules ((ascends_is rules).0 up) (each_in (λ c. c < rules_in w) rules are))
      ∙ length_selected g (λ c. member c rules) (rules_in w)

  pub asked_room : length (properties_without w old new) + length (properties_without w new old) ≤ 4096
  asked_room =
      let n = rules_in w in
      let f : ℕ → ℕ = λ r. cond (member r old) (length (cond (member r new) [] (properties_of w r))) 0 in
      let g : ℕ → ℕ = λ r. cond (member r new) (length (cond (member r old) [] (properties_of w r))) 0 in
      let h : ℕ → ℕ = λ r. rule_entry_ends w r - start_of (rule_entry_ends w) r in
      let two : sum_below f n + sum_below g n ≤ sum_below h n = sum_two f g h n (λ r. one_side (properties_of w r) (h r) (member r old) (member r new) (properties_length w r)) in
      rw (without_length old new a p, without_length new old b q) (omega (arith, two, sum_ends (rule_entry_ends w) n (entries_rising s), s.entries_end, s.entries))

  pub asked_fits : length (asked w old new) ≤ 4096
  asked_fits =
      let a = properties_without w old new in
      let b = properties_without w new old in
      omega (arith, asked_room, sort_length (a ++ b), length-append a b)

-- ---- the two calls that gather them

module _ (w old new : List ℕ) (s : sheet_shape w ≡ true) (are : AreRules w old × AreRules w new) (up : (ascends old ≡ true) × (ascends new ≡ true)) where
  room : length (properties_without w old new) + length (properties_without w new old) ≤ 4096
  room = asked_room (shaped w s) old new are.0 are.1 up.0 up.1

  pub first_asks : {n : ℕ} → 4096 ≤ n → (0 + length (properties_without w old new) ≤ n) × (ascends [] ≡ true)
  first_asks size = (omega (arith, room), unfold ascends_from in refl)

  module _ {d e : List ℕ} {some : ℕ} (size : 4096 ≤ length d) (h : Holds (sort (properties_without w old new ++ take 0 d)) d some e) where
    some_few : some ≤ length (properties_without w old new)
    some_few =
        let a = properties_without w old new in
        let z : length (a ++ []) ≡ length a = ap length (append-nil a) in
        omega (arith, h.count, sort_length (a ++ []), z)

    pub second_asks : (some + length (properties_without w new old) ≤ length e) × (ascends (take some e) ≡ true)
    second_asks =
        let l = properties_without w old new ++ [] in
        (omega (arith, room, some_few, held_length h (omega (arith, room, some_few))), rw (held_take h) ((ascends_is (sort l)).1 (sort_ascending l)))

    pub all_listed : {f : List ℕ} {all : ℕ} → Holds (sort (properties_without w new old ++ take some e)) e all f → Listed w old new all f
    all_listed {f} {all} k =
        let a = properties_without w old new in
        let b = properties_without w new old in
        let k' : Holds (asked w old new) e all f = rw (held_take h, append-nil a, sort_join a b) at k in
        let few = asked_fits (shaped w s) old new are.0 are.1 up.0 up.1 in
        record { few = omega (arith, few, k'.count); count = k'.count; are = held_take k' }

pub listed_count : {w old new : List ℕ} {all : ℕ} {f : List ℕ} → Listed w old new all f → all ≡ length (take all f)
listed_count l = l.count ∙ ap length (sym l.are)

-- what is listed, as `pick` asks, and what it picks
module _ {w old new : List ℕ} (s : sheet_shape w ≡ true) (are : AreRules w old × AreRules w new) {all : ℕ} {f : List ℕ} (l : Listed w old new all f) where
  pub listed_asks : {n : ℕ} → n ≡ 4096 → (length (take all f) ≤ n) × (at_most 65535 (take all f) ≡ true)
  listed_asks size = (
    rw length-take (omega (arith, l.few)),
    rw l.are (at_most_intro 65535 (asked w old new) (λ i h. asked_few w s old new are.0 are.1 (get_or (asked w old new) i 0) (get_or_in (asked w old new) i 0 h))),
  )

  pub listed_changed : (ranking : ℕ) {r : ℕ} {d e : List ℕ} → Holds (keep (differing w ranking old new) (take all f)) d r e → Holds (changed_of w ranking old new) d r e
  listed_changed ranking h = rw (changed_asked w s ranking old new are.0 are.1, ← l.are) h
