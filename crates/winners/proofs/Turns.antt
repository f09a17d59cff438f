-- The loops over the sources: one more source, and all of them. Assumes nothing.
use mathlib.Core.Path.{◌≡◌, refl, sym, ap, ◌∙◌}
use mathlib.Core.Bool.{Bool, true, false, cond, not}
use mathlib.Core.Option.{Option, none, some}
use Rattle.std.specs.Prelude.{Option as Optional, None}
use mathlib.Core.List.{List, [], ◌∷◌, ◌++◌, map, map-append, append-nil, append_assoc}
use Prim.Native.Nat.{ℕ, ◌+◌, ◌≤◌, ◌<◌}
use native.Mathlib.Numerals.{add-one}
use native.Mathlib.Omega.{arith}
use lib.ListN.{length, get_or, take}
use lib.Seq.{take-suc, take_all}
use lib.Dec.{ltb}
use borrow.Author.Tests.{not-true, not-false, lt-ltb}
use Rattle.theory.specs.Lists.{spread}
use Rattle.theory.specs.Cascade.{winner}
use Rattle.theory.proofs.Spreads.{spread_snoc}
use Rattle.theory.proofs.Winners.{then, winner_snoc}
use Rattle.sheet.specs.Layout.{styles_in, rules_in}
use Rattle.sheet.specs.Sheets.{key_of}
use Rattle.keys.specs.Keys.{key_from}
use Rattle.keys.specs.declared.CascadeEntryKey.{CascadeEntryKey}
use Rattle.winners.specs.declared.Best.{Best}
use Rattle.winners.specs.Winners.{Place, style, rule, source_at, key_at, holds_at, places_for, winner_of, AreRules}
use Rattle.winners.specs.Best.{place_in, key_in, Stands, beats_key}
use Rattle.winners.specs.Next.{Next}

module _ (w : List ℕ) (ranking p : ℕ) where
  -- the winner so far and one more source, by the two tests
  then_is : (o : Option Place) (b : Optional Best) (s : Place) → Stands w ranking p o b
      → then (key_at w ranking) (holds_at w) p o s ≡ cond (holds_at w s p) (cond (beats_key (key_at w ranking s p) (key_in b)) (some s) o) o
  then_is none b s t = rw t.key
  then_is (some u) b s t = rw t.key

  -- one more source, by the answers of the calls
  module _ (s : Place) (b : Optional Best) (held : Bool) (h : held ≡ holds_at w s p) where
    pub next_unheld : not held ≡ true → Next w ranking p s b b
    next_unheld e l t = rw (winner_snoc (key_at w ranking) (holds_at w) l s p, then_is _ b s t, ← h, not-true held e) t

    module _ (e : not held ≡ false) (k : CascadeEntryKey) (key : key_from k ≡ key_of ranking (source_at w s)) (beaten : Bool) (g : beaten ≡ beats_key (key_from k) (key_in b)) where
      tested : beaten ≡ beats_key (key_at w ranking s p) (key_in b)
      unfolding key_at
      tested = rw (← key) g

      pub next_less : not beaten ≡ true → Next w ranking p s b b
      next_less f l t = rw (winner_snoc (key_at w ranking) (holds_at w) l s p, then_is _ b s t, ← h, not-false held e, ← tested, not-true beaten f) t

      pub next_more : not beaten ≡ false → (c : Optional Best) → place_in c ≡ some s → key_in c ≡ some (key_from k) → Next w ranking p s b c
      unfolding key_at
      next_more f c i j l t =
          rw (winner_snoc (key_at w ranking) (holds_at w) l s p, then_is _ b s t, ← h, not-false held e, ← tested, not-false beaten f)
          (record { place = i; key = j ∙ ap some key })

-- ---- the loops

-- the best of the first d of the n direct styles
pub record Styled (w : List ℕ) (ranking p n d : ℕ) (b : Optional Best) : Type 0 where
  pub count : n ≡ styles_in w
  pub within : d ≤ n
  pub stands : Stands w ranking p (winner (key_at w ranking) (holds_at w) (spread style 0 d) p) b

pub styled_start : (w : List ℕ) (ranking p n : ℕ) → n ≡ styles_in w → Styled w ranking p n 0 None
unfolding winner
styled_start w ranking p n e = record { count = e; within = omega arith; stands = record { place = refl; key = refl } }

module _ {w : List ℕ} {ranking p n d : ℕ} {b : Optional Best} (s : Styled w ranking p n d b) where
  pub styled_below : d < n → ltb d (styles_in w) ≡ true
  styled_below h = lt-ltb d (styles_in w) (omega (arith, s.count))

  pub styled_next : {c : Optional Best} → d < n → Next w ranking p (style d) b c → Styled w ranking p n (d + 1) c
  styled_next h m = let z : 0 + d ≡ d = omega arith in record { count = s.count; within = omega arith; stands = rw (spread_snoc style 0 d, z) (m (spread style 0 d) s.stands) }

  pub styled_end : n ≤ d → Stands w ranking p (winner (key_at w ranking) (holds_at w) (spread style 0 (styles_in w)) p) b
  styled_end h = let e : d ≡ styles_in w = omega (arith, s.within, s.count) in rw (← e) s.stands

pub ruleset styled = (styled_start, styled_below, styled_next, styled_end)

-- the best of the direct styles and the first i rules
pub record Ruled (w : List ℕ) (ranking : ℕ) (rules : List ℕ) (p i : ℕ) (b : Optional Best) : Type 0 where
  pub within : i ≤ length rules
  pub stands : Stands w ranking p (winner_of w ranking (take i rules) p) b

pub ruled_start : (w : List ℕ) (ranking : ℕ) (rules : List ℕ) (p : ℕ) (b : Optional Best)
    → Stands w ranking p (winner (key_at w ranking) (holds_at w) (spread style 0 (styles_in w)) p) b
    → Ruled w ranking rules p 0 b
unfolding places_for
ruled_start w ranking rules p b t = record { within = omega arith; stands = rw (append-nil (spread style 0 (styles_in w))) t }

pub rule_there : (w rules : List ℕ) (i : ℕ) → AreRules w rules → i < length rules → ltb (get_or rules i 0) (rules_in w) ≡ true
rule_there w rules i a h = lt-ltb (get_or rules i 0) (rules_in w) (a i h)

-- the places with one rule more
places_next : (w rules : List ℕ) (i : ℕ) → i < length rules → places_for w (take (i + 1) rules) ≡ places_for w (take i rules) ++ rule (get_or rules i 0) ∷ []
unfolding places_for
places_next w rules i h =
    rw (add-one i, take-suc rules i 0 h, map-append rule (take i rules) (get_or rules i 0 ∷ []))
    (sym (append_assoc (spread style 0 (styles_in w)) (map rule (take i rules)) (rule (get_or rules i 0) ∷ [])))

module _ {w : List ℕ} {ranking : ℕ} {rules : List ℕ} {p i : ℕ} {b : Optional Best} (s : Ruled w ranking rules p i b) where
  pub ruled_next : {c : Optional Best} → i < length rules → Next w ranking p (rule (get_or rules i 0)) b c → Ruled w ranking rules p (i + 1) c
  ruled_next h n = record { within = omega arith; stands = rw (places_next w rules i h) (n (places_for w (take i rules)) s.stands) }

  pub ruled_end : length rules ≤ i → Stands w ranking p (winner_of w ranking rules p) b
  ruled_end h = rw (take_all i rules h) at s.stands

pub ruleset ruled = (ruled_start, rule_there, ruled_next, ruled_end)
