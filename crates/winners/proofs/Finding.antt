-- The entry of a property, by the search in its list. Assumes nothing.
use mathlib.Core.Path.{◌≡◌, refl, sym, ap, ◌∙◌}
use mathlib.Core.Bool.{true, false}
use mathlib.Core.Option.{Option, none, some}
use mathlib.Core.List.{List}
use mathlib.Core.Logic.{⊎_elim}
use Prim.Native.Nat.{ℕ, zero, suc, ◌+◌, ◌-◌, ◌*◌, ◌≤◌, ◌<◌}
use native.Mathlib.Omega.{arith}
use lib.ListN.{length, get_or, drop, length-map}
use borrow.Author.Tests.{eq-eqb, ne_eqb}
use Rattle.theory.specs.Lists.{spread, ascends, member}
use Rattle.theory.proofs.Lists.{le_or_lt}
use Rattle.theory.proofs.Spreads.{length_spread}
use Rattle.idset.specs.Buffers.{rank}
use Rattle.lent.specs.Pool.{ends_in, start_of, list_at}
use Rattle.idset.proofs.Search.{rank_skip, rank_here, found_at, found_out}
use Rattle.style.specs.Entries.{Entry, look_up}
use Rattle.sheet.specs.Layout
use Rattle.sheet.specs.Sheets.{between, entry_at, style_entry_ends, rule_entry_ends, style_at, rule_at}
use Rattle.sheet.specs.Shape.{sheet_shape}
use Rattle.std.specs.Prelude.{Option as Optional, Some, None}
use Rattle.winners.specs.declared.Best.{Best}
use Rattle.winners.specs.declared.Found.{Found}
use Rattle.winners.specs.declared.Source.TheVariants as source
use Rattle.winners.specs.Winners.{is_there, entry_of}
use Rattle.winners.specs.Best.{place_in, is_place, Finds}
use Rattle.winners.proofs.Reading.{ids, there_is, ids_are, style_there, rule_there, style_ends, rule_ends, style_ascends, rule_ascends}

-- ---- looking up

look_none : (p : ℕ) (l : List Entry) → false ≡ member p (ids l) → look_up p l ≡ none
look_none p l e = by (look_up p l) (there_is p l ∙ sym e)
  where
    by : (o : Option Entry) → is_there o ≡ false → o ≡ none
    by none q = refl
    by (some a) q = cc

-- what is at its rank is it
look_at : (p : ℕ) (f : ℕ → Entry) (s n : ℕ) → rank p (ids (spread f s n)) < n → get_or (ids (spread f s n)) (rank p (ids (spread f s n))) 0 ≡ p
    → look_up p (spread f s n) ≡ some (f (s + rank p (ids (spread f s n))))
unfolding look_up
look_at p f s zero h e = absurd (omega arith)
look_at p f s (suc n) h e =
    ⊎_elim (λ q.
    let r = rank_here p (f s).property (ids (spread f (suc s) n)) q in
    let z : s + 0 ≡ s = omega arith in
    rw (r, z, eq-eqb (f s).property p (rw r at e)))
    (λ q.
    let r = rank_skip p (f s).property (ids (spread f (suc s) n)) q in
    let z : s + suc (rank p (ids (spread f (suc s) n))) ≡ suc s + rank p (ids (spread f (suc s) n)) = omega arith in
    rw (r, z, ne_eqb (f s).property p (λ g. omega arith)) (look_at p f (suc s) n (omega (arith, r)) (rw r at e)))
    (le_or_lt p (f s).property)

-- ---- the ways out of the search

-- the entries of list k of a pool
abbrev pub listed : List ℕ → ℕ → ℕ → ℕ → ℕ → ℕ → List Entry
listed w base room first stride k = between (entry_at w base room) (ends_in w first stride) k

module _ (w : List ℕ) (base room first stride k : ℕ)
    (h : base + ends_in w first stride k ≤ length w)
    (l : List ℕ)
    (g : l ≡ list_at (ends_in w first stride) (drop base w) k)
    (p at : ℕ)
    (r : at ≡ rank p l) where
  list_ids : l ≡ ids (listed w base room first stride k)
  list_ids = g ∙ ids_are w base room (ends_in w first stride) k h

  pub finds_past : length l ≤ at → look_up p (listed w base room first stride k) ≡ none
  finds_past b = look_none p (listed w base room first stride k) (found_out p at l r b ∙ ap (member p) list_ids)

  pub finds_other : ascends l ≡ true → at < length l → (get_or l at 0 ≡ p → ⊥) → look_up p (listed w base room first stride k) ≡ none
  finds_other e b n =
      look_none p (listed w base room first stride k) (sym (ne_eqb (get_or l at 0) p n) ∙ found_at p at l r e b ∙ ap (member p) list_ids)

  pub finds_at : at < length l → get_or l at 0 ≡ p → (start from kind number : ℕ) → start ≡ start_of (ends_in w first stride) k → from ≡ start
      → kind ≡ get_or w (base + room + from + at) 0
      → number ≡ get_or w (base + room + from + at + room) 0
      → Finds (look_up p (listed w base room first stride k)) (Some (record { kind = kind; number = number }))
  unfolding entry_at
  finds_at b e start from kind number i j m n =
      let s = start_of (ends_in w first stride) k in
      let c = ends_in w first stride k - s in
      let q : rank p (ids (listed w base room first stride k)) ≡ at = sym (r ∙ ap (rank p) list_ids) in
      let size : length l ≡ c = ap length list_ids ∙ length-map (listed w base room first stride k) (λ x. x.property) ∙ length_spread (entry_at w base room) s c in
      let here : get_or (ids (listed w base room first stride k)) at 0 ≡ p = sym (ap (λ x. get_or x at 0) list_ids) ∙ e in
      let x : base + room + from + at ≡ base + room + (s + at) = omega arith in
      let y : base + room + from + at + room ≡ base + 2 * room + (s + at) = omega arith in (
        entry_at w base room (s + at),
        look_at p (entry_at w base room) s c (omega arith) (rw q here) ∙ rw q,
        m ∙ rw x,
        n ∙ rw y,
      )

-- ---- the winner's entry

module _ (w : List ℕ) (o : Optional Best) (b : Best) (n : ℕ) (i : o ≡ Some b) where
  module _ (e : sheet_shape w ≡ true) (h : is_place w (place_in o) ≡ true) where
    pub style_place : b.source ≡ source.Style n → (Layout.STYLE-ENTRY + style_entry_ends w n ≤ length w) × (ascends (list_at (style_entry_ends w) (drop Layout.STYLE-ENTRY w) n) ≡ true)
    style_place j = let q = rw i at h in (style_ends w e n (style_there w e b.source q j), style_ascends w e b.source q j)

    pub rule_place : b.source ≡ source.Rule n → (Layout.ENTRY + rule_entry_ends w n ≤ length w) × (ascends (list_at (rule_entry_ends w) (drop Layout.ENTRY w) n) ≡ true)
    rule_place j = let q = rw i at h in (rule_ends w e n (rule_there w e b.source q j), rule_ascends w e b.source q j)

  module _ (p : ℕ) (r : Optional Found) where
    pub finds_style : b.source ≡ source.Style n → Finds (look_up p (between (entry_at w Layout.STYLE-ENTRY Layout.STYLE-ENTRY-ROOM) (style_entry_ends w) n)) r → Finds (entry_of w (place_in o) p) r
    unfolding entry_of style_at
    finds_style j f = rw (i, j) f

    pub finds_rule : b.source ≡ source.Rule n → Finds (look_up p (between (entry_at w Layout.ENTRY Layout.ENTRY-ROOM) (rule_entry_ends w) n)) r → Finds (entry_of w (place_in o) p) r
    unfolding entry_of rule_at
    finds_rule j f = rw (i, j) f

pub finds_nobody : (w : List ℕ) (o : Optional Best) (p : ℕ) → o ≡ None → entry_of w (place_in o) p ≡ none
unfolding entry_of
finds_nobody w o p i = rw i
