-- The properties of kind 1 or 3 among a pool's entries, marked one after the other. Assumes nothing.
use mathlib.Core.Path.{◌≡◌, sym, ap, ◌∙◌}
use mathlib.Core.Bool.{Bool, true, false}
use mathlib.Core.List.{List, [], ◌∷◌, ◌++◌, flat_map, append-nil}
use Prim.Native.Nat.{ℕ, suc, ◌+◌, ◌-◌, ◌≤◌, ◌<◌}
use native.Mathlib.Omega.{arith}
use lib.ListN.{get_or}
use mir.Syntax.{w16}
use mir.Val.{Fits}
use Rattle.theory.specs.Lists.{inserted, only, sort, spread}
use Rattle.theory.specs.Sizes
use Rattle.theory.proofs.Lists.{flat_map_append, select_ascending}
use Rattle.theory.proofs.Spreads.{flat_map_one}
use Rattle.style.specs.Entries.{Entry}
use Rattle.sheet.specs.Layout.{entries_in, style_entries_in, ENTRY, ENTRY-ROOM, STYLE-ENTRY, STYLE-ENTRY-ROOM}
use Rattle.sheet.specs.Sheets.{entry_at}
use Rattle.sheet.specs.Shape.{sheet_shape}
use Rattle.sheet.proofs.Shaped.{shaped}
use Rattle.laid.proofs.Held.{first_suc}
use Rattle.changeset.specs.Marks.{marked, ids_in}
use Rattle.changeset.proofs.Marks.{sort_ascended, sort_middle}
use Rattle.changes.specs.Changes.{of_resource, resources_among, resource_dependent}
use Rattle.changes.proofs.Gathering.{sort_more, sort_first}
use Rattle.changes.proofs.Resources.{style_resources, rule_resources, resources_pools}

-- ---- one more entry

-- the resources among the first entries, then one more
among_next : (w : List ℕ) (base room k : ℕ)
    → resources_among (spread (entry_at w base room) 0 (suc k)) ≡ resources_among (spread (entry_at w base room) 0 k) ++ only (of_resource (get_or w (base + room + k) 0)) (get_or w (base + k) 0)
unfolding entry_at
among_next w base room k =
    let f : Entry → List ℕ = λ e. only (of_resource e.kind) e.property in
    let g = entry_at w base room in
    ap (flat_map f) (first_suc g k) ∙ flat_map_append f (spread g 0 k) (g k ∷ []) ∙ ap (λ l. flat_map f (spread g 0 k) ++ l) (flat_map_one f (g k))

-- the marks m were m₀, and the entries before e are done
pub record Marking (w : List ℕ) (base room n : ℕ) (m₀ : List ℕ) (e : ℕ) (m : List ℕ) : Type 0 where
  pub half : (k : ℕ) → k < n → get_or w (base + k) 0 ≤ 65535
  pub low : base ≤ e
  pub high : e ≤ base + n
  pub ids : ids_in m ≡ sort (resources_among (spread (entry_at w base room) 0 (e - base)) ++ ids_in m₀)

pub marking_start : {w : List ℕ} {base room n : ℕ} {m₀ : List ℕ} → ((k : ℕ) → k < n → get_or w (base + k) 0 ≤ 65535) → Marking w base room n m₀ base m₀
marking_start {w} {base} {room} {n} {m₀} h = let z : base - base ≡ 0 = omega arith in record {
  half = h;
  low = omega arith;
  high = omega arith;
  ids = rw z (unfold flat_map ids_in in sym (sort_ascended _ (select_ascending (marked m₀) Sizes.PROPERTY-IDS)));
}

module _ {w : List ℕ} {base room n : ℕ} {m₀ : List ℕ} {e : ℕ} {m : List ℕ} (s : Marking w base room n m₀ e m) where
  next_is : (b : Bool) → of_resource (get_or w (e + room) 0) ≡ b
      → resources_among (spread (entry_at w base room) 0 (e + 1 - base)) ≡ resources_among (spread (entry_at w base room) 0 (e - base)) ++ only b (get_or w e 0)
  next_is b t =
      let low = s.low in
      let a : e + 1 - base ≡ suc (e - base) = omega arith in
      let p : base + (e - base) ≡ e = omega arith in
      let k : base + room + (e - base) ≡ e + room = omega arith in
      rw a (rw (p, k, t) at (among_next w base room (e - base)))

  -- a property id is a half word
  pub marking_half : {x : ℕ} → e < base + n → x ≡ get_or w e 0 → Fits w16 x
  marking_half {x} h q =
      let low = s.low in
      let p : base + (e - base) ≡ e = omega arith in
      let few : get_or w e 0 ≤ 65535 = rw p at (s.half (e - base) (omega arith)) in
      record { fits = omega arith }

  pub marking_one : {m' : List ℕ} {k x : ℕ} {b : Bool} → e < base + n → k ≡ get_or w (e + room) 0 → b ≡ of_resource k → b ≡ true → x ≡ get_or w e 0 → ids_in m' ≡ inserted x (ids_in m)
      → Marking w base room n m₀ (e + 1) m'
  marking_one {m'} {k} {x} h q t o f i = record {
    half = s.half;
    low = omega (arith, s.low);
    high = omega arith;
    ids = rw (next_is true (rw q at (sym t ∙ o))) (i ∙ rw (f, s.ids) (sort_middle (resources_among (spread (entry_at w base room) 0 (e - base))) (ids_in m₀) (get_or w e 0)));
  }

  pub marking_none : {k : ℕ} {b : Bool} → e < base + n → k ≡ get_or w (e + room) 0 → b ≡ of_resource k → b ≡ false → Marking w base room n m₀ (e + 1) m
  marking_none {k} h q t o = record {
    half = s.half;
    low = omega (arith, s.low);
    high = omega arith;
    ids = rw (next_is false (rw q at (sym t ∙ o)), append-nil (resources_among (spread (entry_at w base room) 0 (e - base)))) s.ids;
  }

  pub marking_end : base + n ≤ e → ids_in m ≡ sort (resources_among (spread (entry_at w base room) 0 n) ++ ids_in m₀)
  marking_end h = let low = s.low in let high = s.high in let z : e - base ≡ n = omega arith in rw z at s.ids

-- ---- both pools: their counts are read and widened

-- as `mark_resources` asks
pub style_asks : (w : List ℕ) {v n : ℕ} → sheet_shape w ≡ true → v ≡ style_entries_in w → n ≡ v
    → ((STYLE-ENTRY ≤ 100000) × (STYLE-ENTRY-ROOM ≤ 4096) × (n ≤ STYLE-ENTRY-ROOM)) × ((e : ℕ) → e < n → get_or w (STYLE-ENTRY + e) 0 ≤ 65535)
style_asks w s f g =
    let h = shaped w s in
    ((omega arith, omega arith, omega (arith, h.style_entries_lem)), λ e l. h.style_pool.properties e (omega arith))

pub rule_asks : (w : List ℕ) {v n : ℕ} → sheet_shape w ≡ true → v ≡ entries_in w → n ≡ v
    → ((ENTRY ≤ 100000) × (ENTRY-ROOM ≤ 4096) × (n ≤ ENTRY-ROOM)) × ((e : ℕ) → e < n → get_or w (ENTRY + e) 0 ≤ 65535)
rule_asks w s f g =
    let h = shaped w s in
    ((omega arith, omega arith, omega (arith, h.entries)), λ e l. h.pool.properties e (omega arith))

pub both_marked : (w m₀ m₁ m₂ : List ℕ) (v n u k : ℕ) → sheet_shape w ≡ true → v ≡ style_entries_in w → n ≡ v → u ≡ entries_in w → k ≡ u
    → ids_in m₁ ≡ sort (resources_among (spread (entry_at w STYLE-ENTRY STYLE-ENTRY-ROOM) 0 n) ++ ids_in m₀)
    → ids_in m₂ ≡ sort (resources_among (spread (entry_at w ENTRY ENTRY-ROOM) 0 k) ++ ids_in m₁)
    → ids_in m₂ ≡ sort (resource_dependent w ++ ids_in m₀)
both_marked w m₀ m₁ m₂ v n u k s p q p' q' e f =
    let a = style_resources w in
    let b = rule_resources w in
    let g : ids_in m₂ ≡ sort (b ++ sort (a ++ ids_in m₀)) = rw (e, q, p, q', p') at f in
    let h : sort (resource_dependent w ++ ids_in m₀) ≡ sort ((a ++ b) ++ ids_in m₀) = rw (resources_pools (shaped w s)) (sort_first (a ++ b) (ids_in m₀)) in
    g ∙ sort_more a b (ids_in m₀) ∙ sym h
