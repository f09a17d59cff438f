-- Only properties of rules that are listed on one side alone can change; so those that change are found among these. Assumes nothing.
use mathlib.Core.Path.{◌≡◌, refl, sym, ap, ◌∙◌}
use mathlib.Core.Logic.Iff
use mathlib.Core.Logic.{◌⊎◌, inl, inr, ◌↔◌}
use mathlib.Core.Bool.{Bool, true, false, cond, not, true≢false}
use mathlib.Core.List.Memᴰ
use mathlib.Core.List.{List, [], ◌∷◌, ◌++◌, map}
use Prim.Native.Nat.{ℕ, suc, ◌+◌, ◌-◌, ◌≤◌, ◌<◌}
use native.Mathlib.Omega.{arith}
use lib.ListN.{length, get_or}
use lib.Dec.{T}
use borrow.Author.Tests.{lt-ltb}
use Rattle.std.specs.Prelude.{Option}
use Rattle.theory.specs.Lists.{◌∈◌, member, spread}
use Rattle.theory.specs.Sizes
use Rattle.theory.specs.Cascade.{same_key, changed}
use Rattle.theory.proofs.Lists.{T-is, append_in, flat_map_in, member_is, sort_in, sort_ascending, ascending_select}
use Rattle.theory.proofs.Changes.{same_key_is}
use Rattle.lent.specs.Pool.{start_of}
use Rattle.style.specs.Entries.{Entry}
use Rattle.sheet.specs.Layout.{rules_in, styles_in, ENTRY, ENTRY-ROOM}
use Rattle.sheet.specs.Sheets.{rule_entry_ends, entry_at}
use Rattle.sheet.specs.Shape.{sheet_shape}
use Rattle.sheet.proofs.Shaped.{Shaped, shaped, entry_end_within}
use Rattle.laid.proofs.Held.{spread_in}
use Rattle.winners.specs.Winners.{Place, style, rule, holds_at, key_at, places_for, AreRules, winner_of, winning_key_of}
use Rattle.winners.specs.Best.{Stands, key_in}
use Rattle.winners.specs.declared.Best.{Best}
use Rattle.winners.specs.declared.Source.TheVariants as source
use Rattle.winners.proofs.Reading.{ids, ids_are, rule_ends, rule_held}
use Rattle.changes.specs.Changes.{changed_of}
use Rattle.changes.specs.Within.{properties_of, properties_without}
use Rattle.changes.specs.Asked.{keep, asked, differing}
use Rattle.changes.proofs.Keep.{keep_in, keep_ascending, winning_key_holders}

-- what holds at each position holds of each member
pub each_in : (P : ℕ → Type 0) (l : List ℕ) → ((i : ℕ) → i < length l → P (get_or l i 0)) → (c : ℕ) → c ∈ l → P c
each_in P [] h c m = absurd (Memᴰ.not-nil m)
each_in P (a ∷ l) h c m = elim (Memᴰ.cases_cons m) [ inl e ↦ rw e (h 0 (omega arith)) | inr k ↦ each_in P l (λ i j. h (suc i) (omega arith)) c k ]

-- a property is that of a rule that is listed and not among the others
without_in : (w rules others : List ℕ) (p : ℕ) → (p ∈ properties_without w rules others) ↔ ((r : ℕ) × (r ∈ rules) × (member r others ≡ false) × (p ∈ properties_of w r))
unfolding properties_without
without_in w rules others p =
    let i = flat_map_in (λ r. cond (member r others) [] (properties_of w r)) rules p in (
      λ h. let (r, m, k) = i.0 h in let (e, q) = from (member r others) (properties_of w r) k in (r, m, e, q),
      λ h. i.1 (h.0, h.1, rw h.2 h.3),
    )
  where
    from : (b : Bool) (l : List ℕ) → p ∈ cond b [] l → (b ≡ false) × (p ∈ l)
    from true l h = absurd (Memᴰ.not-nil h)
    from false l h = (refl, h)

asked_in : (w old new : List ℕ) (p : ℕ) → (p ∈ asked w old new) ↔ ((p ∈ properties_without w old new) ⊎ (p ∈ properties_without w new old))
asked_in w old new p =
    let a = properties_without w old new in
    let b = properties_without w new old in
    Iff.trans (sort_in (a ++ b) p) (append_in a b p)

-- whether the winning key differs, by the two winners
pub differs_is : (w old new : List ℕ) (ranking p : ℕ) (a c : Option Best) (b : Bool) → Stands w ranking p (winner_of w ranking old p) a → Stands w ranking p (winner_of w ranking new p) c
    → b ≡ same_key (key_in a) (key_in c) → not b ≡ differing w ranking old new p
differs_is w old new ranking p a c b s t e = rw (s.key, t.key) at (ap not e)

module _ (w : List ℕ) (shape : sheet_shape w ≡ true) where
  s : Shaped w
  s = shaped w shape

  -- a source that holds the property and is listed on one side is listed on the other, unless the property is that of a rule listed on this side alone
  listed_too : (old new : List ℕ) → AreRules w old → (p : ℕ) → (p ∈ properties_without w old new → ⊥) → (x : Place) → T (holds_at w x p) → x ∈ places_for w old → x ∈ places_for w new
  unfolding places_for
  listed_too old new are p out x h m = elim ((append_in (spread style 0 (styles_in w)) (map rule old) x).0 m) [
    | inl k ↦ Memᴰ.append_left (map rule new) k
    | inr k ↦ let (r, i, e) = Memᴰ.of_map rule old k in by r i e (member r new) refl
  ]
    where
      by : (r : ℕ) → r ∈ old → rule r ≡ x → (b : Bool) → member r new ≡ b → x ∈ (spread style 0 (styles_in w) ++ map rule new)
      by r i e true q = Memᴰ.append_right (spread style 0 (styles_in w)) (rw e at (Memᴰ.map rule ((member_is r new).0 q)))
      by r i e false q =
          let below = each_in (λ c. c < rules_in w) old are r i in
          let g : T (holds_at w (rule r) p) = rw e h in
          let t : member p (properties_of w r) ≡ true = rule_held w shape (source.Rule r) (lt-ltb r (rules_in w) below) refl refl p refl ∙ (T-is (holds_at w (rule r) p)).0 g in
          absurd (out ((without_in w old new p).1 (r, i, q, (member_is p (properties_of w r)).0 t)))

  -- a property of no such rule keeps its winning key
  pub unasked_same : (ranking : ℕ) (old new : List ℕ) → AreRules w old → AreRules w new → (p : ℕ) → (p ∈ asked w old new → ⊥)
      → winning_key_of w ranking old p ≡ winning_key_of w ranking new p
  unasked_same ranking old new a b p out =
      winning_key_holders (key_at w ranking) (holds_at w) (places_for w old) (places_for w new) p (λ x h. (
        listed_too old new a p (λ m. out ((asked_in w old new p).1 (inl m))) x h,
        listed_too new old b p (λ m. out ((asked_in w old new p).1 (inr m))) x h,
      ))

  -- property words are half words
  property_few : (r : ℕ) → r < rules_in w → (p : ℕ) → p ∈ properties_of w r → p ≤ 65535
  unfolding entry_at
  property_few r h p m =
      let a = start_of (rule_entry_ends w) r in
      let n = rule_entry_ends w r - a in
      let f = entry_at w ENTRY ENTRY-ROOM in
      let m' : p ∈ ids (spread f a n) = rw (ids_are w ENTRY ENTRY-ROOM (rule_entry_ends w) r (rule_ends w shape r h)) at m in
      let (x, k, q) = Memᴰ.of_map (λ (e : Entry). e.property) (spread f a n) m' in
      let (i, lo, hi, e) = spread_in f a n x k in
      let same : get_or w (ENTRY + i) 0 ≡ p = ap (λ (y : Entry). y.property) (sym e) ∙ q in
      rw (← same) (s.pool.properties i (omega (arith, entry_end_within s r h, (s.each_rule r h).entries.up)))

  without_few : (old new : List ℕ) → AreRules w old → (p : ℕ) → p ∈ properties_without w old new → p ≤ 65535
  without_few old new are p m = let (r, i, e, q) = (without_in w old new p).0 m in property_few r (each_in (λ c. c < rules_in w) old are r i) p q

  pub asked_few : (old new : List ℕ) → AreRules w old → AreRules w new → (p : ℕ) → p ∈ asked w old new → p ≤ 65535
  asked_few old new a b p m = elim ((asked_in w old new p).0 m) [ inl k ↦ without_few old new a p k | inr k ↦ without_few new old b p k ]

  -- so those that change are those among them whose winning key differs
  pub changed_asked : (ranking : ℕ) (old new : List ℕ) → AreRules w old → AreRules w new → changed_of w ranking old new ≡ keep (differing w ranking old new) (asked w old new)
  unfolding changed
  changed_asked ranking old new a b =
      let f = differing w ranking old new in
      let l = asked w old new in
      sym (ascending_select f Sizes.PROPERTY-IDS (keep f l) (keep_ascending f l (sort_ascending _)) (λ c. (
        λ h. let (m, t) = (keep_in f l c).0 h in (omega (arith, asked_few old new a b c m), t),
        λ h. (keep_in f l c).1 (is_asked c h.1 (member c l) refl, h.1),
      )))
    where
      is_asked : (c : ℕ) → T (differing w ranking old new c) → (t : Bool) → member c (asked w old new) ≡ t → c ∈ asked w old new
      is_asked c h true e = (member_is c (asked w old new)).0 e
      is_asked c h false e =
          let same = unasked_same ranking old new a b c (λ m. true≢false (sym ((member_is c (asked w old new)).1 m) ∙ e)) in
          let z : T false = rw ((same_key_is (winning_key_of w ranking old c) (winning_key_of w ranking new c)).1 same) at h in
          absurd z
