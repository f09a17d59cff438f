-- Two answers that tell the same and hold the same are the same: the record `Owned` determines an owned subject. Assumes nothing.
use mathlib.Core.Path.{◌≡◌, refl, sym, ◌∙◌}
use mathlib.Core.List.{List}
use Prim.Native.Nat.{ℕ}
use Rattle.std.specs.Prelude.{Option, Result, Ok, Err}
use Rattle.lent.specs.declared.Refusal.{Refusal}
use Rattle.lent.proofs.Refusals.{read_back, read_refused}
use Rattle.typed.specs.declared.ClassId.{ClassId}
use Rattle.typed.specs.declared.PseudoClassId.{PseudoClassId}
use Rattle.typed.specs.declared.TypeTag.{TypeTag}
use Rattle.typed.specs.declared.PartTag.{PartTag}
use Rattle.typed.specs.declared.SelectorInputs.{SelectorInputs}
use Rattle.owned.specs.declared.SelectorInputsOwned.{SelectorInputsOwned}
use Rattle.owned.specs.Owned.{verdict_told, inputs_held, Owned}

-- the answer that tells these numbers and holds this subject
read_owned : SelectorInputs → List ℕ → Result SelectorInputsOwned Refusal
read_owned x = read_back (λ l. Ok (record { inputs = x })) Err

read_owned_lem : (a : Result SelectorInputsOwned Refusal) → read_owned (inputs_held a) (verdict_told a) ≡ a
unfolding read_owned read_back
read_owned_lem (Ok x) = refl
read_owned_lem (Err r) = read_refused _ Err r

pub verdict_distinct : (a b : Result SelectorInputsOwned Refusal) → verdict_told a ≡ verdict_told b → inputs_held a ≡ inputs_held b → a ≡ b
verdict_distinct a b e f = sym (read_owned_lem a) ∙ rw (e, f) (read_owned_lem b)

pub owned_distinct : {t : Option TypeTag} {p : Option PartTag} {classes : List ClassId} {n : ℕ} {pseudos : List PseudoClassId} {m : ℕ} (a b : Result SelectorInputsOwned Refusal)
    → Owned t p classes n pseudos m a → Owned t p classes n pseudos m b → a ≡ b
owned_distinct a b h k = verdict_distinct a b (h.verdict ∙ sym k.verdict) (h.inputs ∙ sym k.inputs)
