-- Which properties change, and which depend on resources: 01, "Weight, winners, changes". Assumes nothing.
use Rattle.std.specs.Prelude.{Bool, ◌||◌, ℕ, eqb}
use mathlib.Core.List.{List, flat_map}
use Rattle.theory.specs.Lists.{only, sort}
use Rattle.theory.specs.Cascade.{changed}
use Rattle.style.specs.Entries.{Entry}
use Rattle.sheet.specs.Sheets.{sheet_of, sources_of}
use Rattle.winners.specs.Winners.{key_at, holds_at, places_for, entries_of}

-- "Changed properties, ascending: those whose winning key differs, presence included." From the rules of the old state to those of the new one
abbrev pub changed_of : List ℕ → ℕ → List ℕ → List ℕ → List ℕ
changed_of w ranking old new = changed (key_at w ranking) (holds_at w) (places_for w old) (places_for w new)

-- "Resource-dependent: every property with kind 1 or 3 in any source, matched or not."
abbrev pub of_resource : ℕ → Bool
of_resource kind = eqb kind 1 || eqb kind 3

abbrev pub resources_among : List Entry → List ℕ
resources_among l = flat_map (λ e. only (of_resource e.kind) e.property) l

unfoldable pub resource_dependent : List ℕ → List ℕ
resource_dependent w = sort (resources_among (flat_map entries_of (sources_of (sheet_of w))))
