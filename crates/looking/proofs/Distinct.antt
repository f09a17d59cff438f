-- Equal numbers told are equal answers, so that the contracts determine the answer. Assumes nothing.
use mathlib.Core.Path.{◌≡◌, refl, sym, ◌∙◌}
use mathlib.Core.List.{List, [], ◌∷◌}
use Prim.Native.Nat.{ℕ}
use lib.ListN.{get_or}
use Rattle.std.specs.Prelude.{Result, Option, Some, None}
use Rattle.lent.specs.Refusals.{answered}
use Rattle.lent.specs.declared.Refusal.{Refusal}
use Rattle.lent.proofs.Refusals.{answer_distinct}
use Rattle.style.specs.Looking.{kind_told, kind_of, plain_told, plain_of, resource_told, resource_of}
use Rattle.style.specs.declared.StyleValueKind.{StyleValueKind}
use Rattle.style.specs.declared.StyleValueRef.{StyleValueRef}
use Rattle.style.proofs.Distinct.{kind_distinct, plain_distinct, resource_distinct}
use Rattle.table.specs.Tables.{Table}
use Rattle.table.specs.Calls.{state_verdict}
use Rattle.looking.specs.Calls.{winner_in, entry_in}
use Rattle.looking.specs.Answers.{source_told, winning_told, winner_told}
use Rattle.looking.specs.declared.StyleSourceRef.{StyleSourceRef}
use Rattle.looking.specs.declared.StyleSourceRef.TheVariants.{Direct, Rule}

-- ---- read back

source_from : List ℕ → Option StyleSourceRef
source_from l = get_or (None ∷ Some (Direct (get_or l 1 0) (get_or l 2 0)) ∷ Some (Rule (get_or l 1 0) (get_or l 2 0)) ∷ []) (get_or l 0 0) None

source_back : (o : Option StyleSourceRef) → source_from (source_told o) ≡ o
unfolding source_from
source_back None = refl
source_back (Some (Direct d index)) = refl
source_back (Some (Rule r index)) = refl

pub winning_distinct : (a b : Result (Option StyleSourceRef) Refusal) → winning_told a ≡ winning_told b → a ≡ b
winning_distinct = answer_distinct source_told source_from source_back

-- ---- THEOREM: any two outcomes that a call's contract allows are equal

module _ (w : List ℕ) (t : Table) (number stamp p : ℕ) where
  abbrev told : List ℕ → List ℕ
  told = answered (state_verdict w t number stamp)

  pub winner_determined : {r r' : Result (Option StyleSourceRef) Refusal} → winning_told r ≡ told (winner_told w (winner_in w t number p)) → winning_told r' ≡ told (winner_told w (winner_in w t number p)) → r ≡ r'
  winner_determined {r} {r'} e f = winning_distinct r r' (e ∙ sym f)

  pub kind_determined : {r r' : Result (Option StyleValueKind) Refusal} → kind_told r ≡ told (kind_of (entry_in w t number p)) → kind_told r' ≡ told (kind_of (entry_in w t number p)) → r ≡ r'
  kind_determined {r} {r'} e f = kind_distinct r r' (e ∙ sym f)

  pub plain_determined : {r r' : Result (Option StyleValueRef) Refusal} → plain_told r ≡ told (plain_of (entry_in w t number p)) → plain_told r' ≡ told (plain_of (entry_in w t number p)) → r ≡ r'
  plain_determined {r} {r'} e f = plain_distinct r r' (e ∙ sym f)

  pub resource_determined : {r r' : Result (Option ℕ) Refusal} → resource_told r ≡ told (resource_of (entry_in w t number p)) → resource_told r' ≡ told (resource_of (entry_in w t number p)) → r ≡ r'
  resource_determined {r} {r'} e f = resource_distinct r r' (e ∙ sym f)
