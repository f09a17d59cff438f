-- 01's `walk` example, winners and changes: of any words that hold its sheet, in ranking 0. Assumes nothing.
use mathlib.Core.Path.{◌≡◌, refl, sym, ap, ap₂, ◌∙◌}
use mathlib.Core.Logic.{inl, inr, ◌≢◌}
use mathlib.Core.Bool.{Bool, true, false, cond, ◌||◌}
use mathlib.Core.Option
use mathlib.Core.Option.{Option, none, some}
use mathlib.Core.List.Memᴰ
use mathlib.Core.List.{List, [], ◌∷◌, map}
use Prim.Native.Nat.{ℕ, ◌<◌}
use native.Mathlib.Nat.{zero-add}
use native.Mathlib.Omega.{arith}
use native.Mathlib.Decide.{ℕ_discrete}
use lib.ListN.{length, get_or}
use lib.Dec.{eqb}
use borrow.Author.Tests.{ne_eqb}
use Rattle.theory.specs.Lists.{◌∈◌, Ascending, compare, total}
use Rattle.theory.specs.Cascade.{Key, compare_keys, is_one, winner}
use Rattle.theory.proofs.Lists.{ascending_ext}
use Rattle.theory.proofs.Spreads.{length_spread, get_or_spread}
use Rattle.theory.proofs.Changes.{changed_iff, changed_ascending}
use Rattle.selector.specs.Weighing.{counts_of}
use Rattle.style.specs.Entries.{Entry, look_up}
use Rattle.sheet.specs.Layout.{rules_in, styles_in}
use Rattle.sheet.specs.Sheets.{Style, Rule, Sheet, style_at, rule_at, sheet_of}
use Rattle.table.specs.Tables.{Table, ranking_in}
use Rattle.winners.specs.Winners.{Place, style, rule, holds_at, key_at, places_for, winner_of, winning_key_of, is_there}
use Rattle.changes.specs.Changes.{changed_of}
use Rattle.looking.specs.Calls.{rules_at, winner_in}
use Rattle.looking.specs.Answers.{winner_told}
use Rattle.cascade.specs.Calls.{changed_in}
use Rattle.covered.specs.Covered.{Reached}
use Rattle.promises.specs.Walk.{typed, entry, walk_sheet}
use Rattle.promises.proofs.Changing.{unchanged}
use Rattle.promises.proofs.WalkExample.{walk_root, walk_1, walk_1_5, walk_5}
use Rattle.promises.proofs.WalkSheet.{walk_selectors}

-- ---- a winner found from the right

module _ (key : Place → ℕ → Key) (holds : Place → ℕ → Bool) (l : List Place) (s t : Place) (p : ℕ) where
  skips : holds s p ≡ false → winner key holds (s ∷ l) p ≡ winner key holds l p
  unfolding winner
  skips h = rw h

  alone : holds s p ≡ true → winner key holds l p ≡ none → winner key holds (s ∷ l) p ≡ some s
  unfolding winner
  alone h e = rw (h, e)

  beaten : holds s p ≡ true → winner key holds l p ≡ some t → is_one (compare_keys (key t p) (key s p)) ≡ true → winner key holds (s ∷ l) p ≡ some t
  unfolding winner
  beaten h e c = rw (h, e, c)

nobody : (key : Place → ℕ → Key) (holds : Place → ℕ → Bool) (p : ℕ) → winner key holds [] p ≡ none
unfolding winner
nobody key holds p = refl

there : (x : Entry) (b : Bool) → is_there (cond b (some x) none) ≡ b
there x true = refl
there x false = refl

either : (x y : Entry) (a b : Bool) → is_there (cond a (some x) (cond b (some y) none)) ≡ (a || b)
either x y true b = refl
either x y false b = there y b

module _ (w : List ℕ) (e : sheet_of w ≡ walk_sheet) where
  -- ---- its sources

  styles_one : styles_in w ≡ 1
  unfolding sheet_of
  styles_one = sym (length_spread (style_at w) 0 (styles_in w)) ∙ ap (λ (s : Sheet). length s.styles) e

  rules_two : rules_in w ≡ 2
  unfolding sheet_of
  rules_two = sym (length_spread (rule_at w) 0 (rules_in w)) ∙ ap (λ (s : Sheet). length s.rules) e

  style_is : (d : Style) → style_at w 0 ≡ get_or walk_sheet.styles 0 d
  unfolding sheet_of
  style_is d = sym (get_or_spread (style_at w) 0 (styles_in w) 0 d (omega (arith, styles_one))) ∙ ap (λ (s : Sheet). get_or s.styles 0 d) e

  rule_is : (r : ℕ) (d : Rule) → r < 2 → rule_at w r ≡ get_or walk_sheet.rules r d
  unfolding sheet_of
  rule_is r d h = sym (get_or_spread (rule_at w) 0 (rules_in w) r d (omega (arith, rules_two)) ∙ rw zero-add) ∙ ap (λ (s : Sheet). get_or s.rules r d) e

  places_are : (rules : List ℕ) → places_for w rules ≡ style 0 ∷ map rule rules
  unfolding places_for
  places_are rules = rw styles_one

  -- which hold a property: direct 0 and rule 0 hold 1, rule 1 holds 1 and 2
  style_holds : (p : ℕ) → holds_at w (style 0) p ≡ eqb 1 p
  unfolding holds_at look_up
  style_holds p = rw (style_is (style_at w 0)) (there (entry 1 0 10) (eqb 1 p))

  rule_holds : (p : ℕ) → holds_at w (rule 0) p ≡ eqb 1 p
  unfolding holds_at look_up
  rule_holds p = rw (rule_is 0 (rule_at w 0) (omega arith)) (there (entry 1 0 20) (eqb 1 p))

  second_holds : (p : ℕ) → holds_at w (rule 1) p ≡ (eqb 1 p || eqb 2 p)
  unfolding holds_at look_up
  second_holds p = rw (rule_is 1 (rule_at w 1) (omega arith)) (either (entry 1 0 30) (entry 2 0 40) (eqb 1 p) (eqb 2 p))

  -- and which key is above which
  rule_above : (p : ℕ) → is_one (compare_keys (key_at w 0 (rule 0) p) (key_at w 0 (style 0) p)) ≡ true
  unfolding key_at compare_keys compare total counts_of
  rule_above p = rw (style_is (style_at w 0), rule_is 0 (rule_at w 0) (omega arith))

  second_above : (p : ℕ) → is_one (compare_keys (key_at w 0 (rule 1) p) (key_at w 0 (style 0) p)) ≡ true
  unfolding key_at compare_keys compare total counts_of
  second_above p = rw (style_is (style_at w 0), rule_is 1 (rule_at w 1) (omega arith))

  second_above_first : (p : ℕ) → is_one (compare_keys (key_at w 0 (rule 1) p) (key_at w 0 (rule 0) p)) ≡ true
  unfolding key_at compare_keys compare total counts_of
  second_above_first p = rw (rule_is 0 (rule_at w 0) (omega arith), rule_is 1 (rule_at w 1) (omega arith))

  abbrev K : Place → ℕ → Key
  K = key_at w 0

  abbrev H : Place → ℕ → Bool
  H = holds_at w

  -- ---- who wins with rule 0 listed, and with both

  first_wins_1 : winner_of w 0 (0 ∷ []) 1 ≡ some (rule 0)
  first_wins_1 =
      rw (places_are (0 ∷ []))
      (beaten K H (rule 0 ∷ []) (style 0) (rule 0) 1 (style_holds 1) (alone K H [] (rule 0) (rule 0) 1 (rule_holds 1) (nobody K H 1)) (rule_above 1))

  second_wins_1 : winner_of w 0 (0 ∷ 1 ∷ []) 1 ≡ some (rule 1)
  second_wins_1 =
      rw (places_are (0 ∷ 1 ∷ []))
      (beaten K H (rule 0 ∷ rule 1 ∷ []) (style 0) (rule 1) 1 (style_holds 1)
      (beaten K H (rule 1 ∷ []) (rule 0) (rule 1) 1 (rule_holds 1) (alone K H [] (rule 1) (rule 1) 1 (second_holds 1) (nobody K H 1)) (second_above_first 1))
      (second_above 1))

  second_wins_2 : winner_of w 0 (0 ∷ 1 ∷ []) 2 ≡ some (rule 1)
  second_wins_2 =
      rw (places_are (0 ∷ 1 ∷ []))
      (skips K H (rule 0 ∷ rule 1 ∷ []) (style 0) (style 0) 2 (style_holds 2)
      ∙ skips K H (rule 1 ∷ []) (rule 0) (rule 0) 2 (rule_holds 2)
      ∙ alone K H [] (rule 1) (rule 1) 2 (second_holds 2) (nobody K H 2))

  first_none : (p : ℕ) → p ≢ 1 → winner_of w 0 (0 ∷ []) p ≡ none
  first_none p n =
      rw (places_are (0 ∷ []))
      (skips K H (rule 0 ∷ []) (style 0) (style 0) p (style_holds p ∙ ne_eqb 1 p (λ z. n (sym z)))
      ∙ skips K H [] (rule 0) (rule 0) p (rule_holds p ∙ ne_eqb 1 p (λ z. n (sym z)))
      ∙ nobody K H p)

  both_none : (p : ℕ) → p ≢ 1 → p ≢ 2 → winner_of w 0 (0 ∷ 1 ∷ []) p ≡ none
  both_none p n m =
      rw (places_are (0 ∷ 1 ∷ []))
      (skips K H (rule 0 ∷ rule 1 ∷ []) (style 0) (style 0) p (style_holds p ∙ ne_eqb 1 p (λ z. n (sym z)))
      ∙ skips K H (rule 1 ∷ []) (rule 0) (rule 0) p (rule_holds p ∙ ne_eqb 1 p (λ z. n (sym z)))
      ∙ skips K H [] (rule 1) (rule 1) p (second_holds p ∙ rw (ne_eqb 1 p (λ z. n (sym z)), ne_eqb 2 p (λ z. m (sym z))))
      ∙ nobody K H p)

  -- ---- what changes from the one to the other

  abbrev order_in : Option Key → ℕ
  order_in none = 2
  order_in (some k) = k.order

  first_order : (p : ℕ) → (key_at w 0 (rule 0) p).order ≡ 0
  unfolding key_at
  first_order p = rw (rule_is 0 (rule_at w 0) (omega arith))

  second_order : (p : ℕ) → (key_at w 0 (rule 1) p).order ≡ 1
  unfolding key_at
  second_order p = rw (rule_is 1 (rule_at w 1) (omega arith))

  differ : (p : ℕ) → p ∈ (1 ∷ 2 ∷ []) → winning_key_of w 0 (0 ∷ []) p ≢ winning_key_of w 0 (0 ∷ 1 ∷ []) p
  differ p m = elim (Memᴰ.cases_cons m) [
    | inl a ↦ rw a (λ z. omega (arith, ap order_in (rw (first_wins_1, second_wins_1) at z), first_order 1, second_order 1))
    | inr i ↦ rw (Memᴰ.eq_of_singleton i) (λ z. omega (arith, ap order_in (rw (first_none 2 (λ y. omega arith), second_wins_2) at z), second_order 2))
  ]

  pub changed_1_2 : changed_of w 0 (0 ∷ []) (0 ∷ 1 ∷ []) ≡ 1 ∷ 2 ∷ []
  changed_1_2 =
      ascending_ext (changed_of w 0 (0 ∷ []) (0 ∷ 1 ∷ [])) (1 ∷ 2 ∷ []) (changed_ascending K H (places_for w (0 ∷ [])) (places_for w (0 ∷ 1 ∷ []))) up (λ p.
      let i = changed_iff K H (places_for w (0 ∷ [])) (places_for w (0 ∷ 1 ∷ [])) p in
      (λ m. either_one p (i.0 m).1, λ m. i.1 (small p m, differ p m)))
    where
      up : Ascending (1 ∷ 2 ∷ [])
      up = (λ b m. omega (arith, Memᴰ.eq_of_singleton m), (λ b m. absurd (Memᴰ.not-nil m), tt))

      small : (p : ℕ) → p ∈ (1 ∷ 2 ∷ []) → p < 65536
      small p m = elim (Memᴰ.cases_cons m) [ inl a ↦ omega arith | inr i ↦ omega (arith, Memᴰ.eq_of_singleton i) ]

      either_one : (p : ℕ) → winning_key_of w 0 (0 ∷ []) p ≢ winning_key_of w 0 (0 ∷ 1 ∷ []) p → p ∈ (1 ∷ 2 ∷ [])
      either_one p d = elim (ℕ_discrete p 1) [
        | yes a ↦ Memᴰ.head a
        | no n ↦ elim (ℕ_discrete p 2) [
          | yes a ↦ Memᴰ.tail (Memᴰ.head a)
          | no m ↦ absurd (d (ap (Option.map (λ s. key_at w 0 s p)) (first_none p n ∙ sym (both_none p n m))))
        ]
      ]

-- ---- in the states of a table of ranking 0

module _ {w : List ℕ} (e : sheet_of w ≡ walk_sheet) {t : Table} (ranks : ranking_in t.head ≡ 0) {k stamp : ℕ} where
  module _ (r : Reached w t k stamp (typed 1 ∷ typed 5 ∷ [])) where
    -- "winner 2, 1": "winner 1: rule 1 source 1"
    pub walk_winner_1 : winner_in w t k 1 ≡ some (rule 1)
    walk_winner_1 = ap₂ (λ (ranking : ℕ) (rules : List ℕ). winner_of w ranking rules 1) ranks (walk_1_5 (walk_selectors w e) r) ∙ second_wins_1 w e

    pub walk_told_1 : winner_told w (winner_in w t k 1) ≡ 0 ∷ 2 ∷ 1 ∷ 1 ∷ []
    walk_told_1 = ap (winner_told w) walk_winner_1 ∙ ap (λ (x : Rule). 0 ∷ 2 ∷ 1 ∷ x.source ∷ []) (rule_is w e 1 (rule_at w 1) (omega arith))

    -- "winner 2, 3": "winner 3: none"
    pub walk_winner_3 : winner_in w t k 3 ≡ none
    walk_winner_3 =
        ap₂ (λ (ranking : ℕ) (rules : List ℕ). winner_of w ranking rules 3) ranks (walk_1_5 (walk_selectors w e) r) ∙ both_none w e 3 (λ z. omega arith) (λ z. omega arith)

    -- "changed 3, 2": "changed 2: 1 2"
    pub walk_changed : {old oldStamp : ℕ} → Reached w t old oldStamp (typed 5 ∷ []) → changed_in w t old k ≡ 1 ∷ 2 ∷ []
    walk_changed {old = old} q =
        ap (λ (ranking : ℕ). changed_of w ranking (rules_at t old) (rules_at t k)) ranks
        ∙ ap₂ (λ (a b : List ℕ). changed_of w 0 a b) (walk_5 (walk_selectors w e) q) (walk_1_5 (walk_selectors w e) r)
        ∙ changed_1_2 w e

-- "changed 0, 1": "changed 0:", in any ranking
pub walk_unchanged : {w : List ℕ} → sheet_of w ≡ walk_sheet → {t : Table} {old new oldStamp newStamp : ℕ} → Reached w t old oldStamp [] → Reached w t new newStamp (typed 1 ∷ [])
    → changed_in w t old new ≡ []
walk_unchanged {w} e {t} {old} {new} r q = unchanged w t old new (walk_root (walk_selectors w e) r ∙ sym (walk_1 (walk_selectors w e) q))
