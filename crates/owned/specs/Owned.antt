-- Subjects whose ids are sorted and made unique, by value: 01, "Subjects and steps". Assumes nothing.
use Rattle.std.specs.Prelude.{◌≡◌, cond, List, [], ◌∷◌, ℕ, length, get_or, eqb, Option, None, Result, Ok, Err}
use Rattle.theory.specs.Sizes
use Rattle.theory.specs.Lists.{sort, spread}
use Rattle.lent.specs.declared.Refusal.{Refusal}
use Rattle.lent.specs.Refusals.{check, first_of, answered, answer_told}
use Rattle.typed.specs.declared.ClassId.{ClassId}
use Rattle.typed.specs.declared.PseudoClassId.{PseudoClassId}
use Rattle.typed.specs.declared.TypeTag.{TypeTag}
use Rattle.typed.specs.declared.PartTag.{PartTag}
use Rattle.typed.specs.declared.SelectorInputs.{SelectorInputs}
use Rattle.typed.specs.Typed.{class_number, pseudo_number, inputs_of, tagged, row_with, classes_from, pseudos_from, over}
use Rattle.owned.specs.declared.SelectorInputsOwned.{SelectorInputsOwned}

-- A subject row without tags, of two lists of ids, 0 past them
abbrev pub ids_row : List ℕ → List ℕ → List ℕ
ids_row classes pseudos = row_with 16 0 0 0 0 (length classes) (length pseudos) (λ k. get_or classes k 0) (λ k. get_or pseudos k 0)

-- An owned subject: 2
unfoldable pub owned_verdict : ℕ → ℕ → ℕ
owned_verdict n m = first_of (check 2 (over Sizes.SUBJECT-IDS n m) ∷ [])

-- The answer as numbers: 0, or a refusal's own number
abbrev pub verdict_told : Result SelectorInputsOwned Refusal → List ℕ
verdict_told r = answer_told (λ x. []) r

-- What is held: the subject, or the empty one where it is refused
abbrev pub inputs_held : Result SelectorInputsOwned Refusal → SelectorInputs
inputs_held (Ok x) = x.inputs
inputs_held (Err r) = tagged None None

-- the ids of two lists, 0 past them
abbrev pub owned_of : Option TypeTag → Option PartTag → List ℕ → List ℕ → SelectorInputs
owned_of t p classes pseudos = inputs_of t p (classes_from 16 classes 0) (length classes) (pseudos_from 16 pseudos 0) (length pseudos)

-- "they are sorted and made unique, as are an owned subject's"; the empty subject where it is refused
unfoldable pub owned_inputs : Option TypeTag → Option PartTag → List ClassId → ℕ → List PseudoClassId → ℕ → SelectorInputs
owned_inputs t p classes n pseudos m =
    cond (eqb (owned_verdict n m) 0)
    (owned_of t p (sort (spread (class_number classes) 0 n)) (sort (spread (pseudo_number pseudos) 0 m)))
    (tagged None None)

-- r is the owned subject, or its refusal
pub record Owned (t : Option TypeTag) (p : Option PartTag) (classes : List ClassId) (n : ℕ) (pseudos : List PseudoClassId) (m : ℕ) (r : Result SelectorInputsOwned Refusal) : Type 0 where
  pub verdict : verdict_told r ≡ answered (owned_verdict n m) (0 ∷ [])
  pub inputs : inputs_held r ≡ owned_inputs t p classes n pseudos m
