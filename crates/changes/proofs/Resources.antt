-- The entries of all sources are those of the two pools, so the properties that depend on resources are read off these. Assumes nothing.
use mathlib.Core.Path.{◌≡◌, refl, ap, ap₂, ◌∙◌}
use mathlib.Core.List.{List, ◌++◌, flat_map, map}
use Prim.Native.Nat.{ℕ}
use Rattle.theory.specs.Lists.{only, sort, spread}
use Rattle.theory.proofs.Lists.{flat_map_append}
use Rattle.theory.proofs.Spreads.{map_spread}
use Rattle.style.specs.Entries.{Entry}
use Rattle.sheet.specs.Layout.{rules_in, styles_in, entries_in, style_entries_in, ENTRY, ENTRY-ROOM, STYLE-ENTRY, STYLE-ENTRY-ROOM}
use Rattle.sheet.specs.Sheets.{direct, listed, sheet_of, style_at, rule_at, entry_at, rule_entry_ends, style_entry_ends}
use Rattle.sheet.proofs.Shaped.{Shaped, entries_rising, style_entries_rising}
use Rattle.laid.proofs.Held.{ends_flat}
use Rattle.winners.specs.Winners.{entries_of}
use Rattle.changes.specs.Changes.{of_resource, resources_among, resource_dependent}

-- those of the two pools
abbrev pub style_resources : List ℕ → List ℕ
style_resources w = resources_among (spread (entry_at w STYLE-ENTRY STYLE-ENTRY-ROOM) 0 (style_entries_in w))

abbrev pub rule_resources : List ℕ → List ℕ
rule_resources w = resources_among (spread (entry_at w ENTRY ENTRY-ROOM) 0 (entries_in w))

module _ {w : List ℕ} (s : Shaped w) where
  style_part : flat_map entries_of (map direct (spread (style_at w) 0 (styles_in w))) ≡ spread (entry_at w STYLE-ENTRY STYLE-ENTRY-ROOM) 0 (style_entries_in w)
  style_part =
      ap (flat_map entries_of) (map_spread direct (style_at w) 0 (styles_in w))
      ∙ ends_flat entries_of (λ d. direct (style_at w d)) (entry_at w STYLE-ENTRY STYLE-ENTRY-ROOM) (style_entry_ends w) (styles_in w) (λ d. unfold style_at in refl) (style_entries_rising s)
      ∙ ap (spread (entry_at w STYLE-ENTRY STYLE-ENTRY-ROOM) 0) s.style_entries_end

  rule_part : flat_map entries_of (map listed (spread (rule_at w) 0 (rules_in w))) ≡ spread (entry_at w ENTRY ENTRY-ROOM) 0 (entries_in w)
  rule_part =
      ap (flat_map entries_of) (map_spread listed (rule_at w) 0 (rules_in w))
      ∙ ends_flat entries_of (λ r. listed (rule_at w r)) (entry_at w ENTRY ENTRY-ROOM) (rule_entry_ends w) (rules_in w) (λ r. unfold rule_at in refl) (entries_rising s)
      ∙ ap (spread (entry_at w ENTRY ENTRY-ROOM) 0) s.entries_end

  pub resources_pools : resource_dependent w ≡ sort (style_resources w ++ rule_resources w)
  unfolding resource_dependent sheet_of
  resources_pools =
      let f : Entry → List ℕ = λ e. only (of_resource e.kind) e.property in
      ap sort
      (ap (flat_map f) (flat_map_append entries_of (map direct (spread (style_at w) 0 (styles_in w))) (map listed (spread (rule_at w) 0 (rules_in w))) ∙ ap₂ ◌++◌ style_part rule_part)
      ∙ flat_map_append f (spread (entry_at w STYLE-ENTRY STYLE-ENTRY-ROOM) 0 (style_entries_in w)) (spread (entry_at w ENTRY ENTRY-ROOM) 0 (entries_in w)))
