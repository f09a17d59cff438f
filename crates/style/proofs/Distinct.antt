-- Two answers that tell the same numbers are the same: what a contract says of an answer's numbers determines the answer. Assumes nothing.
use mathlib.Core.Path.{◌≡◌, refl, sym, ap, ◌∙◌}
use mathlib.Core.Bool.{Bool, cond}
use mathlib.Core.List.{List, [], ◌∷◌}
use Prim.Native.Nat.{ℕ}
use lib.ListN.{get_or}
use lib.Dec.{eqb}
use denote.Ref.{Bor}
use Rattle.std.specs.Prelude.{Result, Option, Some, None}
use Rattle.lent.specs.declared.Refusal.{Refusal}
use Rattle.lent.specs.Refusals.{answer_told}
use Rattle.lent.proofs.Refusals.{answer_distinct, yes_distinct, number_distinct}
use Rattle.style.specs.declared.StyleValueKind.{StyleValueKind}
use Rattle.style.specs.declared.StyleValueKind.TheVariants as kind
use Rattle.style.specs.declared.StyleValueRef.{StyleValueRef}
use Rattle.style.specs.declared.StyleValueRef.TheVariants as plain
use Rattle.style.specs.Looking.{found_told, kind_numbers, plain_numbers, containing_told, position_told, kind_told, plain_told, resource_told, length_told, Ids}

-- two answers of what is found that tell the same are the same, where a find tells at least one number and can be read back of what it tells
module _ {A : Type 0} (tell : A → List ℕ) (read : ℕ → List ℕ → A) (found : (a : A) → (n : ℕ) × (l : List ℕ) × (tell a ≡ n ∷ l) × (read n l ≡ a)) where
  read_found : List ℕ → Option A
  read_found [] = None
  read_found (n ∷ l) = Some (read n l)

  read_found_lem : (o : Option A) → read_found (found_told tell o) ≡ o
  unfolding read_found
  read_found_lem None = refl
  read_found_lem (Some a) = let (n, l, e, f) = found a in rw e (ap Some f)

  pub found_distinct : (a b : Result (Option A) Refusal) → answer_told (λ o. found_told tell o) a ≡ answer_told (λ o. found_told tell o) b → a ≡ b
  found_distinct = answer_distinct (λ o. found_told tell o) read_found read_found_lem

pub containing_distinct : (a b : Result Bool Refusal) → containing_told a ≡ containing_told b → a ≡ b
containing_distinct = yes_distinct

pub position_distinct : (a b : Result (Option ℕ) Refusal) → position_told a ≡ position_told b → a ≡ b
position_distinct = found_distinct (λ n. n ∷ []) (λ n l. n) (λ n. (n, [], refl, refl))

kinds : ℕ → List StyleValueKind
kinds n = kind.Value n ∷ kind.Resource n ∷ kind.Expr n ∷ kind.ResourceExpr n ∷ []

read_kind : ℕ → List ℕ → StyleValueKind
read_kind k l = get_or (kinds (get_or l 0 0)) k (kind.Value 0)

kind_back : (a : StyleValueKind) → (n : ℕ) × (l : List ℕ) × (kind_numbers a ≡ n ∷ l) × (read_kind n l ≡ a)
unfolding read_kind kinds
kind_back (kind.Value n) = (0, n ∷ [], refl, refl)
kind_back (kind.Resource n) = (1, n ∷ [], refl, refl)
kind_back (kind.Expr n) = (2, n ∷ [], refl, refl)
kind_back (kind.ResourceExpr n) = (3, n ∷ [], refl, refl)

pub kind_distinct : (a b : Result (Option StyleValueKind) Refusal) → kind_told a ≡ kind_told b → a ≡ b
kind_distinct = found_distinct kind_numbers read_kind kind_back

read_plain : ℕ → List ℕ → StyleValueRef
read_plain k l = cond (eqb k 0) (plain.Value (get_or l 0 0)) (plain.Resource (get_or l 0 0))

plain_back : (a : StyleValueRef) → (n : ℕ) × (l : List ℕ) × (plain_numbers a ≡ n ∷ l) × (read_plain n l ≡ a)
unfolding read_plain
plain_back (plain.Value n) = (0, n ∷ [], refl, refl)
plain_back (plain.Resource n) = (1, n ∷ [], refl, refl)

pub plain_distinct : (a b : Result (Option StyleValueRef) Refusal) → plain_told a ≡ plain_told b → a ≡ b
plain_distinct = found_distinct plain_numbers read_plain plain_back

pub resource_distinct : (a b : Result (Option ℕ) Refusal) → resource_told a ≡ resource_told b → a ≡ b
resource_distinct = position_distinct

pub length_distinct : (a b : Result ℕ Refusal) → length_told a ≡ length_told b → a ≡ b
length_distinct = number_distinct

-- the same ids at the same place
pub ids_determined : {properties kinds numbers : List ℕ} {n : ℕ} {whole part part' : Bor (List ℕ)}
    → Ids properties kinds numbers n whole part → Ids properties kinds numbers n whole part' → (part.now ≡ part'.now) × (part.ref_ptr ≡ part'.ref_ptr)
ids_determined p q = (p.ids ∙ sym q.ids, p.place ∙ sym q.place)
