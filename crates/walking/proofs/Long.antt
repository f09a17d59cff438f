-- How long the lines of a walk are. Assumes nothing.
use mathlib.Core.Path.{◌≡◌, refl}
use mathlib.Core.Bool.{Bool, true, false, cond}
use mathlib.Core.Option.{Option, none, some}
use mathlib.Core.List.{List, [], ◌∷◌, ◌++◌, flat_map}
use Prim.Native.Nat.{ℕ, ◌+◌, ◌*◌, ◌≤◌}
use native.Mathlib.Omega.{arith}
use lib.ListN.{length, length-append, length-replicate}
use lib.Dec.{eqb, ltb}
use borrow.Author.Tests.{eqb-true, ltb-false}
use Rattle.lent.proofs.Refusals.{first_clear}
use Rattle.sheet.specs.Sheets.{style_at, rule_at}
use Rattle.winners.specs.Winners.{Place, style, rule}
use Rattle.table.specs.Tables.{Table}
use Rattle.table.specs.Calls.{broken, not_a_state}
use Rattle.looking.specs.Calls.{rules_at, winner_in}
use Rattle.cascade.specs.Calls.{changed_in, changed_verdict}
use Rattle.records.specs.declared.Record.{Record}
use Rattle.wording.specs.Lines.{decimal, spaced, listed, REFUSED, AT, STATE, MATCHED, CHANGED, WINNER, DIRECT, RULE, SOURCE, END, refused_line, state_line, changed_line, source_text, winner_line}
use Rattle.replies.specs.Walking.{Walking, walking, printed, stamp_of, item_fault, entering_verdict, child_in, entered_in, changed_room, changing_verdict, winning_verdict, walking_verdict, accepted_line, walking_line}
use Rattle.replies.specs.Memory.{Ready}
use Rattle.wording.proofs.Decimal.{decimal_short}
use Rattle.replies.proofs.Replying.{list_few}
use Rattle.walking.proofs.Rows.{ready_tabled, entered_tabled}

both : (a b : List ℕ) (m n : ℕ) → length a ≤ m → length b ≤ n → length (a ++ b) ≤ m + n
both a b m n h g = rw length-append (omega arith)

number_short : (n : ℕ) → length (decimal n) ≤ 20
number_short n = decimal_short 20 n

spaced_short : (l : List ℕ) → length (spaced l) ≤ 21 * length l
unfolding spaced flat_map
spaced_short [] = omega arith
spaced_short (n ∷ l) =
    let h = both (32 ∷ decimal n) (spaced l) 21 (21 * length l) (omega (arith, number_short n)) (spaced_short l) in
    omega (arith, h)

listed_short : (l : List ℕ) → length (listed l) ≤ 22 + 21 * length l
listed_short l =
    let h = both (decimal (length l)) (58 ∷ [] ++ (spaced l ++ END)) 20 (1 + (21 * length l + 1)) (number_short (length l))
    (both (58 ∷ []) (spaced l ++ END) 1 (21 * length l + 1) (omega arith) (both (spaced l) END (21 * length l) 1 (spaced_short l) (omega arith))) in
    omega (arith, h)

pub refused_short : (n offset : ℕ) → length (refused_line n offset) ≤ 53
unfolding refused_line
refused_short n offset =
    both REFUSED (decimal n ++ (AT ++ (decimal offset ++ END))) 8 45 (omega arith)
    (both (decimal n) (AT ++ (decimal offset ++ END)) 20 25 (number_short n)
    (both AT (decimal offset ++ END) 4 21 (omega arith)
    (both (decimal offset) END 20 1 (number_short offset) (omega arith))))

state_short : (n : ℕ) (l : List ℕ) → length (state_line n l) ≤ 57 + 21 * length l
unfolding state_line
state_short n l =
    let h = both STATE (decimal n ++ (MATCHED ++ listed l)) 6 (20 + (9 + (22 + 21 * length l))) (omega arith)
    (both (decimal n) (MATCHED ++ listed l) 20 (9 + (22 + 21 * length l)) (number_short n)
    (both MATCHED (listed l) 9 (22 + 21 * length l) (omega arith) (listed_short l))) in
    omega (arith, h)

changed_short : (l : List ℕ) → length (changed_line l) ≤ 30 + 21 * length l
unfolding changed_line
changed_short l = let h = both CHANGED (listed l) 8 (22 + 21 * length l) (omega arith) (listed_short l) in omega (arith, h)

source_short : (w : List ℕ) (won : Option Place) → length (source_text w won) ≤ 55
source_short w none = omega arith
source_short w (some (style d)) =
    let n = (style_at w d).source in
    let h = both DIRECT (decimal n) 9 20 (omega arith) (number_short n) in
    omega (arith, h)
source_short w (some (rule r)) =
    let n = (rule_at w r).source in
    both RULE (decimal r ++ (SOURCE ++ decimal n)) 7 48 (omega arith)
    (both (decimal r) (SOURCE ++ decimal n) 20 28 (number_short r) (both SOURCE (decimal n) 8 20 (omega arith) (number_short n)))

winner_short : (w : List ℕ) (p : ℕ) (won : Option Place) → length (winner_line w p won) ≤ 83
unfolding winner_line
winner_short w p won =
    both WINNER (decimal p ++ (source_text w won ++ END)) 7 76 (omega arith)
    (both (decimal p) (source_text w won ++ END) 20 56 (number_short p)
    (both (source_text w won) END 55 1 (source_short w won) (omega arith)))

printed_short : (v offset : ℕ) (line : List ℕ) → (v ≡ 0 → length line ≤ 87000) → length (printed v offset line) ≤ 87000
printed_short v offset line h = by (eqb v 0) refl
  where
    by : (b : Bool) → eqb v 0 ≡ b → length (cond b line (refused_line v offset)) ≤ 87000
    by true e = h (eqb-true v 0 e)
    by false e = omega (arith, refused_short v offset)

-- what was accepted fits the buffer
changed_few : (w : List ℕ) (t : Table) (old a new b : ℕ) (out : List ℕ) → changed_verdict w t old a new b out ≡ 0 → length (changed_in w t old new) ≤ length out
unfolding changed_verdict
changed_few w t old a new b out e =
    let (p, f) = first_clear 11 (broken w t) _ (omega arith) e in
    let (q, g) = first_clear 4 (not_a_state t.head old a) _ (omega arith) f in
    let (r, h) = first_clear 4 (not_a_state t.head new b) _ (omega arith) g in
    let (s, i) = first_clear 8 (ltb (length out) (length (changed_in w t old new))) _ (omega arith) h in
    ltb-false (length out) (length (changed_in w t old new)) s

module _ {w : List ℕ} {t : Table} {items : List ℕ} (y : Ready w t items) (offset : ℕ) where
  abbrev here : Walking
  here = walking w t items

  enter_short : (parent : ℕ) → entering_verdict here parent ≡ 0 → length (state_line (child_in here parent) (rules_at (entered_in here parent) (child_in here parent))) ≤ 87000
  enter_short parent e =
      let long = (entered_tabled w t items (ready_tabled y) parent e).matched in
      let few = list_few (entered_in here parent).states (entered_in here parent).matched (child_in here parent) in
      omega (arith, state_short (child_in here parent) (rules_at (entered_in here parent) (child_in here parent)))

  changes_short : (old new : ℕ) → changing_verdict here old new ≡ 0 → length (changed_line (changed_in w t old new)) ≤ 87000
  changes_short old new e =
      let few = changed_few w t old (stamp_of here) new (stamp_of here) changed_room e in
      let long = length-replicate {A = ℕ} 4096 0 in
      omega (arith, changed_short (changed_in w t old new))

  accepted_short : (r : Record) → walking_verdict here r ≡ 0 → length (accepted_line here r) ≤ 87000
  unfolding walking_verdict accepted_line
  accepted_short r = by (eqb r.kind 9) (eqb r.kind 10) (eqb r.kind 11) (eqb r.kind 12)
    where
      entering : List ℕ
      entering = state_line (child_in here r.first) (rules_at (entered_in here r.first) (child_in here r.first))

      won : List ℕ
      won = winner_line w r.second (winner_in w t r.first r.second)

      by : (a b c d : Bool)
          → cond a (item_fault items r.first) (cond b (entering_verdict here r.first) (cond c (changing_verdict here r.first r.second) (cond d (winning_verdict here r.first) 10))) ≡ 0
          → length (cond a [] (cond b entering (cond c (changed_line (changed_in w t r.first r.second)) (cond d won [])))) ≤ 87000
      by true b c d e = omega arith
      by false true c d e = enter_short r.first e
      by false false true d e = changes_short r.first r.second e
      by false false false true e = omega (arith, winner_short w r.second (winner_in w t r.first r.second))
      by false false false false e = omega arith

  pub line_short : (r : Record) → length (walking_line here offset r) ≤ 87000
  unfolding walking_line
  line_short r = printed_short (walking_verdict here r) offset (accepted_line here r) (accepted_short r)
