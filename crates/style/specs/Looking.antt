-- What the look-ups of a style answer, as numbers: 0 and what was found, or a refusal's own number. Assumes nothing.
use Rattle.std.specs.Prelude.{◌≡◌, Bool, cond, List, [], ◌∷◌, ℕ, zero, suc, take, eqb, ltb, Result, Option, Some, None}
use Rattle.std.specs.Borrow.{Bor}
use Rattle.std.proofs.Math.Option.{none, some}
use Rattle.std.proofs.Math.Option as math
use Rattle.theory.specs.Lists.{member}
use Rattle.lent.specs.declared.Refusal.{Refusal}
use Rattle.lent.specs.Refusals.{one_if, answered, answer_told, yes_told, number_told}
use Rattle.style.specs.declared.StyleValueKind.{StyleValueKind}
use Rattle.style.specs.declared.StyleValueKind.TheVariants as kind
use Rattle.style.specs.declared.StyleValueRef.{StyleValueRef}
use Rattle.style.specs.declared.StyleValueRef.TheVariants as plain
use Rattle.style.specs.Entries.{Entry, entries_of, look_up}
use Rattle.style.specs.Checks.{style_verdict}

-- ---- each answer's numbers

-- what is found tells its numbers, nothing tells none
abbrev pub found_told : {A : Type 0} → (A → List ℕ) → Option A → List ℕ
found_told tell None = []
found_told tell (Some a) = tell a

abbrev pub containing_told : Result Bool Refusal → List ℕ
containing_told r = yes_told r

abbrev pub position_told : Result (Option ℕ) Refusal → List ℕ
position_told r = answer_told (λ o. found_told (λ n. n ∷ []) o) r

-- the kind and the number
abbrev pub kind_numbers : StyleValueKind → List ℕ
kind_numbers (kind.Value n) = 0 ∷ n ∷ []
kind_numbers (kind.Resource n) = 1 ∷ n ∷ []
kind_numbers (kind.Expr n) = 2 ∷ n ∷ []
kind_numbers (kind.ResourceExpr n) = 3 ∷ n ∷ []

abbrev pub kind_told : Result (Option StyleValueKind) Refusal → List ℕ
kind_told r = answer_told (λ o. found_told kind_numbers o) r

abbrev pub plain_numbers : StyleValueRef → List ℕ
plain_numbers (plain.Value n) = 0 ∷ n ∷ []
plain_numbers (plain.Resource n) = 1 ∷ n ∷ []

abbrev pub plain_told : Result (Option StyleValueRef) Refusal → List ℕ
plain_told r = answer_told (λ o. found_told plain_numbers o) r

abbrev pub resource_told : Result (Option ℕ) Refusal → List ℕ
resource_told r = answer_told (λ o. found_told (λ n. n ∷ []) o) r

abbrev pub length_told : Result ℕ Refusal → List ℕ
length_told r = number_told r

-- ---- what each answers

-- where p stands first; the list's length where it does not
unfoldable pub place_of : ℕ → List ℕ → ℕ
place_of p [] = 0
place_of p (a ∷ l) = cond (eqb a p) 0 (suc (place_of p l))

abbrev pub place_in : ℕ → ℕ → List ℕ
place_in at n = cond (ltb at n) (0 ∷ at ∷ []) (0 ∷ [])

-- the kind and the number
abbrev pub kind_of : math.Option Entry → List ℕ
kind_of none = 0 ∷ []
kind_of (some e) = 0 ∷ e.kind ∷ e.number ∷ []

-- "Looked up plainly, a winning resource is given as one, an expression as nothing"
abbrev pub plain_kind : ℕ → ℕ → List ℕ
plain_kind zero n = 0 ∷ 0 ∷ n ∷ []
plain_kind (suc zero) n = 0 ∷ 1 ∷ n ∷ []
plain_kind (suc (suc k)) n = 0 ∷ []

abbrev pub plain_of : math.Option Entry → List ℕ
plain_of none = 0 ∷ []
plain_of (some e) = plain_kind e.kind e.number

abbrev pub resource_kind : ℕ → ℕ → List ℕ
resource_kind k n = cond (eqb k 1) (0 ∷ n ∷ []) (0 ∷ [])

abbrev pub resource_of : math.Option Entry → List ℕ
resource_of none = 0 ∷ []
resource_of (some e) = resource_kind e.kind e.number

module _ (properties kinds numbers : List ℕ) (n : ℕ) where
  abbrev pub style_answer : List ℕ → List ℕ
  style_answer accepted = answered (style_verdict properties kinds numbers n) accepted

  -- the entry of a property
  abbrev pub found : ℕ → math.Option Entry
  found p = look_up p (entries_of properties kinds numbers n)

  abbrev pub containing_of : ℕ → List ℕ
  containing_of p = style_answer (0 ∷ one_if (member p (take n properties)) ∷ [])

  abbrev pub position_of : ℕ → List ℕ
  position_of p = style_answer (place_in (place_of p (take n properties)) n)

  -- the ids in order, none of a refused style
  abbrev pub ids_of : List ℕ
  ids_of = cond (eqb (style_verdict properties kinds numbers n) 0) (take n properties) []

  -- They are the front of the caller's list `whole`, and stand where it does
  pub record Ids (whole part : Bor (List ℕ)) : Type 0 where
    pub ids : part.now ≡ ids_of
    pub place : part.ref_ptr ≡ whole.ref_ptr
