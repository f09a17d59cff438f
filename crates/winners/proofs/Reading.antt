-- What the lists of a sheet say of its sources. Assumes nothing.
use mathlib.Core.Path.{◌≡◌, refl, sym, ◌∙◌}
use mathlib.Core.Bool.{Bool, true, false}
use mathlib.Core.List.{List, [], ◌∷◌, map}
use mathlib.Core.Logic.{⊎_elim}
use Prim.Native.Nat.{ℕ, ◌+◌, ◌-◌, ◌≤◌, ◌<◌}
use native.Mathlib.Omega.{arith}
use lib.ListN.{length, get_or, drop}
use lib.Seq.{drop-drop}
use mathlib.Core.Option.{some}
use lib.Dec.{eqb}
use borrow.Author.Tests.{ltb-true}
use Rattle.theory.specs.Lists.{ascends, member}
use Rattle.theory.proofs.Lists.{le_or_lt}
use Rattle.theory.proofs.Spreads.{map_spread, spread_shift, part_spread}
use Rattle.lent.specs.Pool.{start_of, list_at}
use Rattle.style.specs.Entries.{Entry, look_up}
use Rattle.sheet.specs.Layout
use Rattle.sheet.specs.Sheets.{between, entry_at, style_entry_ends, rule_entry_ends, style_at, rule_at}
use Rattle.sheet.specs.Shape.{sheet_shape}
use Rattle.sheet.proofs.Shaped.{Shaped, shaped, style_entry_end_within, entry_end_within}
use Rattle.winners.specs.declared.Source.{Source}
use Rattle.winners.specs.declared.Source.TheVariants as source
use Rattle.winners.specs.Best.{place_of, is_place}
use Rattle.winners.specs.Winners.{is_there, holds_at}

-- ---- looking up

abbrev pub ids : List Entry → List ℕ
ids l = map (λ e. e.property) l

-- an entry is there exactly if its property is
pub there_is : (p : ℕ) (l : List Entry) → is_there (look_up p l) ≡ member p (ids l)
unfolding look_up member
there_is p [] = refl
there_is p (e ∷ l) = by (eqb e.property p) refl (there_is p l)
  where
    by : (t : Bool) → eqb e.property p ≡ t → is_there (look_up p l) ≡ member p (ids l) → is_there (look_up p (e ∷ l)) ≡ member p (ids (e ∷ l))
    by true q r = rw q
    by false q r = rw q r

-- ---- lists of a sheet

-- the property ids of a list are those of its entries
pub ids_are : (w : List ℕ) (base room : ℕ) (ends : ℕ → ℕ) (k : ℕ) → base + ends k ≤ length w → list_at ends (drop base w) k ≡ ids (between (entry_at w base room) ends k)
unfolding list_at entry_at
ids_are w base room ends k g =
    let s = start_of ends k in
    let n = ends k - s in
    ⊎_elim (λ h. rw (drop-drop s base w, part_spread w 0 (base + s) n (omega arith), map_spread (λ e. e.property) (entry_at w base room) s n)
    (sym (spread_shift (λ i. get_or w i 0) base s n))) (λ h. let z : n ≡ 0 = omega arith in rw z) (le_or_lt s (ends k))

module _ (w : List ℕ) (e : sheet_shape w ≡ true) where
  known : Shaped w
  known = shaped w e

  pub style_ends : (d : ℕ) → d < Layout.styles_in w → Layout.STYLE-ENTRY + style_entry_ends w d ≤ length w
  style_ends d h = let s = known in omega (arith, s.room, s.style_entries_lem, style_entry_end_within s d h)

  pub rule_ends : (r : ℕ) → r < Layout.rules_in w → Layout.ENTRY + rule_entry_ends w r ≤ length w
  rule_ends r h = let s = known in omega (arith, s.room, s.entries, entry_end_within s r h)

  -- the list of a source: its ids ascend, and tell what the source holds
  module _ (s : Source) (h : is_place w (some (place_of s)) ≡ true) where
    pub style_there : {d : ℕ} → s ≡ source.Style d → d < Layout.styles_in w
    style_there {d} i = ltb-true d (Layout.styles_in w) (rw i at h)

    pub rule_there : {r : ℕ} → s ≡ source.Rule r → r < Layout.rules_in w
    rule_there {r} i = ltb-true r (Layout.rules_in w) (rw i at h)

    pub style_ascends : {d : ℕ} → s ≡ source.Style d → ascends (list_at (style_entry_ends w) (drop Layout.STYLE-ENTRY w) d) ≡ true
    style_ascends {d} i = (known.each_style d (style_there i)).sorted

    pub rule_ascends : {r : ℕ} → s ≡ source.Rule r → ascends (list_at (rule_entry_ends w) (drop Layout.ENTRY w) r) ≡ true
    rule_ascends {r} i = (known.each_rule r (rule_there i)).sorted

    module _ {d : ℕ} (i : s ≡ source.Style d) {l : List ℕ} (g : l ≡ list_at (style_entry_ends w) (drop Layout.STYLE-ENTRY w) d) where
      pub style_sorted : ascends l ≡ true
      style_sorted = rw g (style_ascends i)

      pub style_held : (p : ℕ) {b : Bool} → b ≡ member p l → b ≡ holds_at w (place_of s) p
      unfolding holds_at style_at
      style_held p m =
          m ∙ rw (i, g, ids_are w Layout.STYLE-ENTRY Layout.STYLE-ENTRY-ROOM (style_entry_ends w) d (style_ends d (style_there i)))
          (sym (there_is p (between (entry_at w Layout.STYLE-ENTRY Layout.STYLE-ENTRY-ROOM) (style_entry_ends w) d)))

    module _ {r : ℕ} (i : s ≡ source.Rule r) {l : List ℕ} (g : l ≡ list_at (rule_entry_ends w) (drop Layout.ENTRY w) r) where
      pub rule_sorted : ascends l ≡ true
      rule_sorted = rw g (rule_ascends i)

      pub rule_held : (p : ℕ) {b : Bool} → b ≡ member p l → b ≡ holds_at w (place_of s) p
      unfolding holds_at rule_at
      rule_held p m =
          m ∙ rw (i, g, ids_are w Layout.ENTRY Layout.ENTRY-ROOM (rule_entry_ends w) r (rule_ends r (rule_there i)))
          (sym (there_is p (between (entry_at w Layout.ENTRY Layout.ENTRY-ROOM) (rule_entry_ends w) r)))
