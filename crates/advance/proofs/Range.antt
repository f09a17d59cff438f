-- What a cursor leaves and lists: near it, at a step, of a rule; so how many there can be. Assumes nothing.
use mathlib.Core.Path.{◌≡◌, refl}
use mathlib.Core.Bool.{Bool, true, false, ◌&&◌, not}
use mathlib.Core.Logic.{inl, inr}
use mathlib.Core.Option.{Option, none, some}
use mathlib.Core.List.Memᴰ
use mathlib.Core.List.{List, [], ◌∷◌, ◌++◌, flat_map}
use Prim.Native.Nat.{ℕ, zero, suc, ◌+◌, ◌*◌, ◌/◌, ◌%◌, ◌≤◌, ◌<◌}
use native.Mathlib.Nat.{mul-suc}
use native.Mathlib.Omega.{arith}
use native.Mathlib.Decide.{dec_lt}
use lib.ListN.{length, get_elem?, length-append}
use lib.Dec.{ltb}
use borrow.Author.Tests.{eqb-false, not-true}
use Rattle.theory.specs.Lists.{◌∈◌, sort, only, select}
use Rattle.theory.specs.Paths.{Part, Selector}
use Rattle.theory.specs.States.{Sheet, rule, Small, cursor, descends, is_last, leaves, lists, leaves_of, lists_of}
use Rattle.theory.proofs.Lists.{and_right, append_in, flat_map_in, only_in, T-is, sort_in, sort_ascending, sort_length, select_in, select_ascending}
use Rattle.theory.proofs.Steps.{at_below}
use Rattle.selector.specs.Tags.{Tags, step_matches}
use Rattle.sheet.specs.Layout.{rules_in}
use Rattle.sheet.specs.Shape.{sheet_shape}
use Rattle.sheet.proofs.Shaped.{shaped}
use Rattle.table.specs.Tables.{selectors_of}
use Rattle.table.proofs.Selectors.{selector_past, selectors_small}
use Rattle.advance.specs.Advancing as advancing
use Rattle.advance.specs.Advancing.{Room}
use Rattle.advance.proofs.Putting.{ascending_length}
use Rattle.advance.proofs.Walking.{Rises}

-- ---- how many

only_few : (b : Bool) (n : ℕ) → length (only b n) ≤ 1
only_few true n = omega arith
only_few false n = omega arith

flat_few : (f : ℕ → List ℕ) (m : ℕ) → ((c : ℕ) → length (f c) ≤ m) → (l : List ℕ) → length (flat_map f l) ≤ m * length l
unfolding flat_map
flat_few f m h [] = omega arith
flat_few f m h (c ∷ l) = rw (length-append, mul-suc) (omega (arith, h c, flat_few f m h l))

select_few : (n : ℕ) → length (select (λ k. true) n) ≤ n
unfolding select
select_few zero = omega arith
select_few (suc n) = rw length-append (omega (arith, select_few n))

-- sorted numbers below n are at most n
below_few : (l : List ℕ) (n : ℕ) → ((k : ℕ) → k ∈ l → k < n) → length (sort l) ≤ n
below_few l n h =
    omega (arith, select_few n, ascending_length (sort l) (select (λ k. true) n) (sort_ascending l) (select_ascending (λ k. true) n) (λ k i. (select_in (λ k. true) n k).1 (h k ((sort_in l k).0 i), tt)))

-- ---- one cursor

module _ {Step Subject : Type 0} (ok : Step → Subject → Bool) (sheet : Sheet Step) (x : Subject) (c k : ℕ) where
  abbrev sel : Selector Step
  sel = rule sheet (c / 8)

  left_there : Small sheet → k ∈ leaves_of ok sheet x c → k % 8 < length (rule sheet (k / 8))
  left_there small = go (get_elem? sel (c % 8)) refl
    where
      go : (o : Option (Part Step)) → get_elem? sel (c % 8) ≡ o → k ∈ leaves ok o (is_last sel (c % 8)) x (c / 8) (c % 8) → k % 8 < length (rule sheet (k / 8))
      go none e m = absurd (Memᴰ.not-nil m)
      go (some p) e m =
          let here = at_below sel (c % 8) p e in
          let kept = ltb 0 (c % 8) && descends p.comb in
          let last = is_last sel (c % 8) in
          elim ((append_in (only kept (cursor (c / 8) (c % 8))) (only (ok p.step x && not last) (cursor (c / 8) (suc (c % 8)))) k).0 m) [
            | inl i ↦
                let (_, q) = (only_in kept (cursor (c / 8) (c % 8)) k).0 i in
                let r : k / 8 ≡ c / 8 = omega arith in
                let s : k % 8 ≡ c % 8 = omega arith in
                rw (r, s) here
            | inr i ↦
                let (t, q) = (only_in (ok p.step x && not last) (cursor (c / 8) (suc (c % 8))) k).0 i in
                let more = eqb-false (suc (c % 8)) (length sel) (not-true last (and_right (ok p.step x) (not last) ((T-is (ok p.step x && not last)).0 t))) in
                let r : k / 8 ≡ c / 8 = omega (arith, small (c / 8)) in
                let s : k % 8 ≡ suc (c % 8) = omega (arith, small (c / 8)) in
                rw (r, s) (omega arith)
          ]

  listed_there : k ∈ lists_of ok sheet x c → 0 < length (rule sheet k)
  listed_there = go (get_elem? sel (c % 8)) refl
    where
      go : (o : Option (Part Step)) → get_elem? sel (c % 8) ≡ o → k ∈ lists ok o (is_last sel (c % 8)) x (c / 8) → 0 < length (rule sheet k)
      go none e m = absurd (Memᴰ.not-nil m)
      go (some p) e m = let (_, q) = (only_in (ok p.step x && is_last sel (c % 8)) (c / 8) k).0 m in rw q (omega (arith, at_below sel (c % 8) p e))

  -- near it, and few
  left_near : (k ∈ leaves_of ok sheet x c → k ≤ c + 1) × (length (leaves_of ok sheet x c) ≤ 2)
  left_near = go (get_elem? sel (c % 8))
    where
      go : (o : Option (Part Step)) → (k ∈ leaves ok o (is_last sel (c % 8)) x (c / 8) (c % 8) → k ≤ c + 1) × (length (leaves ok o (is_last sel (c % 8)) x (c / 8) (c % 8)) ≤ 2)
      go none = (λ m. absurd (Memᴰ.not-nil m), omega arith)
      go (some p) =
          let kept = ltb 0 (c % 8) && descends p.comb in
          let moved = ok p.step x && not (is_last sel (c % 8)) in
          let here = only kept (cursor (c / 8) (c % 8)) in
          let next = only moved (cursor (c / 8) (suc (c % 8))) in (
            λ m. elim ((append_in here next k).0 m) [
              | inl i ↦ omega (arith, ((only_in kept (cursor (c / 8) (c % 8)) k).0 i).1)
              | inr i ↦ omega (arith, ((only_in moved (cursor (c / 8) (suc (c % 8))) k).0 i).1)
            ],
            omega (arith, length-append here next, only_few kept (cursor (c / 8) (c % 8)), only_few moved (cursor (c / 8) (suc (c % 8)))),
          )

  listed_near : (k ∈ lists_of ok sheet x c → k ≡ c / 8) × (length (lists_of ok sheet x c) ≤ 1)
  listed_near = go (get_elem? sel (c % 8))
    where
      go : (o : Option (Part Step)) → (k ∈ lists ok o (is_last sel (c % 8)) x (c / 8) → k ≡ c / 8) × (length (lists ok o (is_last sel (c % 8)) x (c / 8)) ≤ 1)
      go none = (λ m. absurd (Memᴰ.not-nil m), omega arith)
      go (some p) = let met = ok p.step x && is_last sel (c % 8) in (λ m. ((only_in met (c / 8) k).0 m).1, only_few met (c / 8))

-- ---- the cursors and rules of a lent sheet

module _ (w : List ℕ) where
  rule_there : (r : ℕ) → 0 < length (rule (selectors_of w) r) → r < rules_in w
  rule_there r h = elim (dec_lt r (rules_in w)) [ yes l ↦ l | no l ↦ let z : 0 < 0 = rw (selector_past w r (omega arith)) at h in omega arith ]

  module _ (shape : sheet_shape w ≡ true) (x : Tags) (c k : ℕ) where
    left_below : k ∈ leaves_of step_matches (selectors_of w) x c → k < 2048
    left_below m =
        let h = left_there step_matches (selectors_of w) x c k (selectors_small w shape) m in
        omega (arith, rule_there (k / 8) (omega arith), (shaped w shape).rules)

    listed_below : k ∈ lists_of step_matches (selectors_of w) x c → k < 256
    listed_below m = omega (arith, rule_there k (listed_there step_matches (selectors_of w) x c k m), (shaped w shape).rules)

-- ---- for the walk, and for callers: the room that is wanted

module _ (w : List ℕ) (x : Tags) where
  pub rises_left : Rises (advancing.leaves w x) (λ c. c)
  rises_left = record { brings = λ c k d i l. omega (arith, (left_near step_matches (selectors_of w) x c k).0 i) }

  pub rises_listed : Rises (advancing.lists w x) (λ c. c / 8)
  rises_listed = record { brings = λ c k d i l. omega (arith, (listed_near step_matches (selectors_of w) x c k).0 i) }

  module _ (parent top next listed : List ℕ) where
    -- twice as many as cursors are given, whatever the sheet,
    pub room_few : 2 * (length parent + length top) + 2 ≤ length next → length parent + length top + 2 ≤ length listed → Room w parent top x next listed
    room_few h g =
        let all = parent ++ top in
        let cursors = flat_few (advancing.leaves w x) 2 (λ c. (left_near step_matches (selectors_of w) x c 0).1) all in
        let rules = flat_few (advancing.lists w x) 1 (λ c. (listed_near step_matches (selectors_of w) x c 0).1) all in
        record {
          cursors = omega (arith, cursors, length-append parent top, sort_length (flat_map (advancing.leaves w x) all));
          matched = omega (arith, rules, length-append parent top, sort_length (flat_map (advancing.lists w x) all));
        }

    -- or as many as there can be
    pub room_many : sheet_shape w ≡ true → 2050 ≤ length next → 258 ≤ length listed → Room w parent top x next listed
    room_many shape h g =
        let all = parent ++ top in
        record {
          cursors = omega (arith, below_few (flat_map (advancing.leaves w x) all) 2048 (λ k i. let (c, _, j) = (flat_map_in (advancing.leaves w x) all k).0 i in left_below w shape x c k j));
          matched = omega (arith, below_few (flat_map (advancing.lists w x) all) 256 (λ k i. let (c, _, j) = (flat_map_in (advancing.lists w x) all k).0 i in listed_below w shape x c k j));
        }
