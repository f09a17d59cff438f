-- Subjects by value, with typed numbers, and the rows that they are written to and read from: 01, "Subjects and steps".
-- Assumes nothing.
use Rattle.std.specs.Prelude.{◌≡◌, refl, Bool, ◌||◌, List, [], ◌∷◌, ◌++◌, ℕ, get_or, replicate, ltb, Option, Some, None}
use Rattle.std.proofs.Math.Option as maybe
use Rattle.theory.specs.Lists.{spread}
use Rattle.typed.specs.declared.ClassId.{ClassId}
use Rattle.typed.specs.declared.PseudoClassId.{PseudoClassId}
use Rattle.typed.specs.declared.TypeTag.{TypeTag}
use Rattle.typed.specs.declared.PartTag.{PartTag}
use Rattle.typed.specs.declared.SelectorInputs.{SelectorInputs}
use Rattle.selector.specs.Tags.{Tags}
use Rattle.selector.specs.Rows.{tag_of, tag_number}
use Rattle.selector.specs.Weighing.{is_set}

-- ---- tags and ids as numbers

-- the number in a tag that is set
abbrev pub number_in : {A : Type 0} → (A → ℕ) → Option A → maybe.Option ℕ
number_in value None = maybe.none
number_in value (Some t) = maybe.some (value t)

abbrev pub type_of : Option TypeTag → maybe.Option ℕ
type_of t = number_in (λ t. t.0) t

abbrev pub part_of : Option PartTag → maybe.Option ℕ
part_of t = number_in (λ t. t.0) t

-- the number of id k
abbrev pub class_number : List ClassId → ℕ → ℕ
class_number ids k = (get_or ids k (record { 0 = 0 })).0

abbrev pub pseudo_number : List PseudoClassId → ℕ → ℕ
pseudo_number ids k = (get_or ids k (record { 0 = 0 })).0

-- the first n classes and m pseudos
abbrev pub tags_of : Option TypeTag → Option PartTag → List ClassId → ℕ → List PseudoClassId → ℕ → Tags
tags_of t p classes n pseudos m = record {
  type = type_of t;
  part = part_of p;
  classes = spread (class_number classes) 0 n;
  pseudos = spread (pseudo_number pseudos) 0 m;
}

-- What a subject has
unfoldable pub inputs_tags : SelectorInputs → Tags
inputs_tags x = tags_of x.type_tag x.part_tag x.classes x.class_count x.pseudos x.pseudo_count

-- ---- what is made

abbrev pub no_classes : ℕ → List ClassId
no_classes size = replicate size (record { 0 = 0 })

abbrev pub no_pseudos : ℕ → List PseudoClassId
no_pseudos size = replicate size (record { 0 = 0 })

abbrev pub inputs_of : Option TypeTag → Option PartTag → List ClassId → ℕ → List PseudoClassId → ℕ → SelectorInputs
inputs_of t p classes n pseudos m = record {
  type_tag = t;
  part_tag = p;
  classes = classes;
  class_count = n;
  pseudos = pseudos;
  pseudo_count = m;
}

-- a subject with tags alone; without those, "`SelectorInputs::EMPTY` is the subject without tags or identifiers."
abbrev pub tagged : Option TypeTag → Option PartTag → SelectorInputs
tagged t p = inputs_of t p (no_classes 16) 0 (no_pseudos 16) 0

empty_has_nothing : inputs_tags (tagged None None) ≡ record { type = maybe.none; part = maybe.none; classes = []; pseudos = [] }
unfolding inputs_tags
empty_has_nothing = refl

-- ---- rows

-- A row: type flag, type, part flag, part, class count, pseudo count, then `size` classes and `size` pseudos
abbrev pub row_with : ℕ → ℕ → ℕ → ℕ → ℕ → ℕ → ℕ → (ℕ → ℕ) → (ℕ → ℕ) → List ℕ
row_with size tf t pf p n m class pseudo = tf ∷ t ∷ pf ∷ p ∷ n ∷ m ∷ (spread class 0 size ++ spread pseudo 0 size)

-- A tag that isn't set is written as 0 and 0
abbrev pub row_of : ℕ → maybe.Option ℕ → maybe.Option ℕ → ℕ → ℕ → (ℕ → ℕ) → (ℕ → ℕ) → List ℕ
row_of size t p = row_with size (is_set t) (tag_number t) (is_set p) (tag_number p)

abbrev pub inputs_row : SelectorInputs → List ℕ
inputs_row x =
    row_of 16 (type_of x.type_tag) (part_of x.part_tag) x.class_count x.pseudo_count (class_number x.classes) (pseudo_number x.pseudos)

-- the tag with a number
abbrev pub tag_from : {A : Type 0} → (ℕ → A) → maybe.Option ℕ → Option A
tag_from made maybe.none = None
tag_from made (maybe.some n) = Some (made n)

abbrev pub type_from : maybe.Option ℕ → Option TypeTag
type_from n = tag_from (λ n. record { 0 = n }) n

abbrev pub part_from : maybe.Option ℕ → Option PartTag
part_from n = tag_from (λ n. record { 0 = n }) n

-- the ids with the numbers of `size` words from `at` on
abbrev pub classes_from : ℕ → List ℕ → ℕ → List ClassId
classes_from size words at = spread (λ k. record { 0 = get_or words k 0 }) at size

abbrev pub pseudos_from : ℕ → List ℕ → ℕ → List PseudoClassId
pseudos_from size words at = spread (λ k. record { 0 = get_or words k 0 }) at size

-- What a row's words say; a word past the end is 0
abbrev pub inputs_with : Option TypeTag → Option PartTag → List ℕ → SelectorInputs
inputs_with t p row = inputs_of t p (classes_from 16 row 6) (get_or row 4 0) (pseudos_from 16 row 22) (get_or row 5 0)

abbrev pub row_type : List ℕ → Option TypeTag
row_type row = type_from (tag_of (get_or row 0 0) (get_or row 1 0))

abbrev pub row_part : List ℕ → Option PartTag
row_part row = part_from (tag_of (get_or row 2 0) (get_or row 3 0))

abbrev pub inputs_from : List ℕ → SelectorInputs
inputs_from row = inputs_with (row_type row) (row_part row) row

-- ---- refusals

-- "a count is over its size"
abbrev pub over : ℕ → ℕ → ℕ → Bool
over size n m = ltb size n || ltb size m
