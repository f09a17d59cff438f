-- Laws of steps by value: what a step's row says, and a row read back. Assumes nothing.
use mathlib.Core.Path.{◌≡◌, ◌∙◌}
use mathlib.Core.List.{List}
use Prim.Native.Nat.{ℕ, ◌≤◌}
use lib.ListN.{get_or}
use Rattle.std.specs.Prelude.{Option}
use Rattle.theory.specs.Lists.{spread}
use Rattle.selector.specs.Rows.{row_at}
use Rattle.typed.specs.declared.TypeTag.{TypeTag}
use Rattle.typed.specs.declared.PartTag.{PartTag}
use Rattle.typed.specs.Typed.{type_of, part_of, class_number, pseudo_number, row_type, row_part}
use Rattle.typed.proofs.Laws.{row_tags}
use Rattle.steps.specs.declared.SelectorStep.{SelectorStep}
use Rattle.steps.specs.Steps.{step_tags, step_row, step_with, step_from}

pub step_row_lem : (s : SelectorStep) → s.class_count ≤ 8 → s.pseudo_count ≤ 8 → row_at 8 (step_row s) 0 ≡ step_tags s
unfolding step_tags
step_row_lem s h g = row_tags 8 s.class_count s.pseudo_count (type_of s.type_tag) (part_of s.part_tag) (class_number s.required_classes) (pseudo_number s.required_pseudos) h g

pub step_read : (row w : List ℕ) (t : Option TypeTag) (p : Option PartTag) (s : SelectorStep)
    → w ≡ spread (λ k. get_or row k 0) 0 22 → t ≡ row_type w → p ≡ row_part w → s ≡ step_with t p w → s ≡ step_from row
step_read row w t p s e f g h = h ∙ rw (f, g, e)
