-- Change sets: lists of property ids, ascending and each once, in lent half words. Assumes nothing.
use Rattle.std.specs.Prelude.{◌≡◌, cond, List, [], ◌∷◌, ◌++◌, ℕ, length, take, ltb, eqb, Bool, Result}
use Rattle.std.proofs.lemmas.List.Edits.{sets}
use Rattle.theory.specs.Lists.{sort}
use Rattle.lent.specs.Refusals.{number_told, yes_told, answered, Check, check, first_of}
use Rattle.lent.specs.declared.Refusal.{Refusal}

-- ---- the answers as numbers: 0 and what is told, or a refusal's own number

abbrev pub changing_told : Result ℕ Refusal → List ℕ
changing_told = number_told

abbrev pub emptiness_told : Result Bool Refusal → List ℕ
emptiness_told = yes_told

-- ---- refusals

-- "a count is .. past the lent list it counts"
abbrev pub past_end : List ℕ → ℕ → Check
past_end ids n = check 2 (ltb (length ids) n)

-- "the buffer for an answer's list is too short"
abbrev pub too_short : List ℕ → List ℕ → Check
too_short list out = check 8 (ltb (length out) (length list))

-- ---- a list written into a lent buffer: how many there are, and the buffer after; "An accepted call leaves what stands past its answer"
pub record Lists (verdict : ℕ) (list before : List ℕ) (r : Result ℕ Refusal) (after : List ℕ) : Type 0 where
  pub answer : changing_told r ≡ answered verdict (0 ∷ length list ∷ [])
  pub memory : after ≡ cond (eqb verdict 0) (sets before 0 list) before

-- ---- the sets

-- `StyleChangeSet::from_property_ids`: sorted and made unique
abbrev pub set_of : List ℕ → ℕ → List ℕ
set_of ids n = sort (take n ids)

-- `StyleChangeSet::union`
abbrev pub union_of : List ℕ → ℕ → List ℕ → ℕ → List ℕ
union_of a n b m = sort (take n a ++ take m b)

unfoldable pub set_verdict : List ℕ → ℕ → List ℕ → ℕ
set_verdict ids n out = first_of (past_end ids n ∷ too_short (set_of ids n) out ∷ [])

unfoldable pub union_verdict : List ℕ → ℕ → List ℕ → ℕ → List ℕ → ℕ
union_verdict a n b m out = first_of (past_end a n ∷ past_end b m ∷ too_short (union_of a n b m) out ∷ [])

unfoldable pub count_verdict : List ℕ → ℕ → ℕ
count_verdict ids n = first_of (past_end ids n ∷ [])
