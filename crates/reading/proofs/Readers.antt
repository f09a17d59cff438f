-- What the calls read is the sheet that the words hold: its rules and styles by number, and their steps as typed values. Assumes nothing.
use mathlib.Core.Path.{◌≡◌, refl, sym, ap, ◌∙◌}
use mathlib.Core.Bool.{true}
use mathlib.Core.Option as maybe
use mathlib.Core.Option.{none, some}
use mathlib.Core.List.{List}
use Prim.Native.Nat.{ℕ, ◌+◌, ◌-◌, ◌≤◌, ◌<◌}
use native.Mathlib.Nat.{add-zero}
use native.Mathlib.Omega.{arith}
use lib.ListN.{length, get_or, get_elem?, drop}
use lib.Seq.{get_or-drop}
use borrow.Author.Tests.{lt-ltb}
use Rattle.theory.specs.Lists.{spread}
use Rattle.theory.specs.Paths.{Part}
use Rattle.theory.proofs.Spreads.{get_or_spread, spread_same, spread_shift, part_spread}
use Rattle.lent.specs.Pool.{start_of}
use Rattle.selector.specs.Tags.{Tags}
use Rattle.selector.specs.Rows.{row_at, words_from}
use Rattle.typed.specs.Typed.{type_of, type_from, part_of, part_from}
use Rattle.typed.specs.declared.ClassId.{ClassId}
use Rattle.typed.specs.declared.PseudoClassId.{PseudoClassId}
use Rattle.steps.specs.Steps.{step_tags, step_from}
use Rattle.sheet.specs.Layout.{rules_in, steps_in, step_place}
use Rattle.sheet.specs.Sheets.{part_at, rule_at, rule_step_ends}
use Rattle.sheet.specs.Shape.{sheet_shape}
use Rattle.sheet.proofs.ReadLaws.{room, steps_few, step_ids, rule_steps_end, tags_same, length_between, between_at}
use Rattle.std.specs.Prelude.{Result, Option}
use Rattle.lent.specs.declared.Refusal.{Refusal}
use Rattle.steps.specs.declared.SelectorStep.{SelectorStep}
use Rattle.reading.specs.Reading.{rule_verdict, step_of, StepRead}
use Rattle.reading.proofs.Answers.{verdict_fine, verdict_there}

-- ---- steps

type_back : (t : maybe.Option ℕ) → type_of (type_from t) ≡ t
type_back none = refl
type_back (some n) = refl

part_back : (t : maybe.Option ℕ) → part_of (part_from t) ≡ t
part_back none = refl
part_back (some n) = refl

-- the first n of eight ids read from word `off` of a row are the n words there
ids_back : {A : Type 0} (make : ℕ → A) (number : A → ℕ) → ((n : ℕ) → number (make n) ≡ n) → (d : A) (w : List ℕ) (at off n : ℕ) → n ≤ 8 → at + off + n ≤ length w
    → spread (λ k. number (get_or (spread (λ j. make (get_or (drop at w) j 0)) off 8) k d)) 0 n ≡ words_from w (at + off) n
ids_back make number back d w at off n h g =
    spread_same _ (λ k. get_or w (at + off + k) 0) 0 n
    (λ k l m.
    let p : k < 8 = omega arith in
    let z : at + (off + k) ≡ at + off + k = omega arith in
    ap number (get_or_spread (λ j. make (get_or (drop at w) j 0)) off 8 k d p) ∙ back _ ∙ get_or-drop at w (off + k) 0 ∙ rw z)
    ∙ spread_shift (λ i. get_or w i 0) (at + off) 0 n
    ∙ (let z : at + off + 0 ≡ at + off = omega arith in rw z)
    ∙ sym (part_spread w 0 (at + off) n g)

module _ (w : List ℕ) (shape : sheet_shape w ≡ true) where
  -- the typed step read from a row asks for what the row says
  pub step_tags_lem : (s : ℕ) → s < steps_in w → step_tags (step_from (drop (step_place s) w)) ≡ row_at 8 w (step_place s)
  unfolding step_tags row_at
  step_tags_lem s h =
      let wide = room w shape in
      let few = steps_few w shape in
      let (classes, pseudos) = step_ids w shape s h in
      tags_same
      (rw (type_back, get_or-drop (step_place s) w 0 0, get_or-drop (step_place s) w 1 0, add-zero (step_place s)))
      (rw (part_back, get_or-drop (step_place s) w 2 0, get_or-drop (step_place s) w 3 0))
      (rw (get_or-drop (step_place s) w 4 0) (ids_back {A = ClassId} (λ n. record { 0 = n }) (λ c. c.0) (λ n. refl) (record { 0 = 0 }) w (step_place s) 6 (get_or w (step_place s + 4) 0) classes (omega arith)))
      (rw (get_or-drop (step_place s) w 5 0) (ids_back {A = PseudoClassId} (λ n. record { 0 = n }) (λ c. c.0) (λ n. refl) (record { 0 = 0 }) w (step_place s) 14 (get_or w (step_place s + 5) 0) pseudos (omega arith)))

  -- so that a step which `rule_step` finds is the step of the rule's selector
  pub step_of_rule : (r i : ℕ) (a : Result (Option SelectorStep) Refusal) → StepRead w r i a → r < rules_in w → i < length (rule_at w r).selector
      → (p : Part Tags) × (get_elem? (rule_at w r).selector i ≡ some p) × (step_tags (step_of a) ≡ p.step)
  unfolding rule_at part_at
  step_of_rule r i a read h g =
      let n = length_between (part_at w) (rule_step_ends w) r in
      let l : i < rule_step_ends w r - start_of (rule_step_ends w) r = rw n at g in
      let s = start_of (rule_step_ends w) r + i in
      let z : 0 ≡ rule_verdict w r = verdict_there w (verdict_fine w true (sym shape) refl) r (rules_in w) refl h in
      let there : s < steps_in w = omega (arith, rule_steps_end w shape r h) in (
        part_at w s,
        between_at (part_at w) (rule_step_ends w) r (rule_step_ends w r - start_of (rule_step_ends w) r) refl i l,
        ap step_tags (read.step ∙ rw (← z, lt-ltb i _ g)) ∙ step_tags_lem s there,
      )
