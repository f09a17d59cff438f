-- Demand 2, where W3C Selectors Level 3 decides: "On 01's domain .. child and descendant matching are proved against W3C Selectors Level 3, as is the
-- standard weight". Of the calls' own answers: each premise is the contract of a public call as it stands in src, or what says that it is not refused.
-- Level 3's side is `Represents` and `specificity`, which theory's specs/Level3 writes from Level 3 alone. Assumes nothing.
use mathlib.Core.Path.{◌≡◌, refl, sym, ap, ap₂, ◌∙◌}
use mathlib.Core.Logic.Iff
use mathlib.Core.Logic.{◌≢◌, ◌↔◌}
use mathlib.Core.Bool.{true}
use mathlib.Core.List.{List, [], ◌∷◌}
use Prim.Native.Nat.{ℕ, ◌-◌, ◌*◌, ◌≤◌, ◌<◌}
use native.Mathlib.Omega.{arith}
use lib.ListN.{drop}
use lib.IntN.{ℤ, pos}
use denote.Ref.{Bor}
use Rattle.std.specs.Prelude.{Bool, Result, Ok}
use Rattle.lent.specs.declared.Refusal.{Refusal}
use Rattle.theory.specs.Lists.{◌∈◌, compare}
use Rattle.theory.specs.Paths.{Places}
use Rattle.theory.specs.Level3.{specificity}
use Rattle.theory.specs.Reading.{simples}
use Rattle.theory.specs.States.{rule}
use Rattle.theory.specs.Weight.{Counts, Weight, weight_numbers, weight_of}
use Rattle.theory.specs.Cascade.{compare_keys}
use Rattle.theory.proofs.Compare.{compare_same}
use Rattle.theory.proofs.Level3.{weight_order}
use Rattle.lent.specs.Refusals.{answered}
use Rattle.lent.proofs.Refusals.{first_clear}
use Rattle.selector.specs.declared.Specificity.{Specificity}
use Rattle.selector.specs.Tags.{Tags, as_sets, step_matches}
use Rattle.selector.specs.Rows.{selector_of, path_of}
use Rattle.selector.specs.Checks.{path_verdict}
use Rattle.selector.specs.Matching.{fits, matching_told, matching_of}
use Rattle.selector.specs.Diagnosing.{Diagnosis, Fits, diagnosis_told, diagnosis_of}
use Rattle.selector.specs.Weighing.{counts_of, counts_in, Summed, weighing_told, weight_told, weighing_of}
use Rattle.selector.proofs.Distinct.{matching_distinct, diagnosis_distinct}
use Rattle.matching.proofs.Fitting.{matching_places}
use Rattle.diagnosing.proofs.Promises.{answers_agree}
use Rattle.selector.proofs.Saturation.{never_saturates}
use Rattle.steps.specs.declared.SelectorStep.{SelectorStep}
use Rattle.steps.specs.Steps.{step_tags, step_weighing}
use Rattle.sheet.specs.Sheets.{rule_at, counts_for}
use Rattle.weighed.specs.Weighing.{weight_from}
use Rattle.weighed.proofs.Saturation.{rule_never_saturates}
use Rattle.reading.specs.Reading.{weight_verdict}
use Rattle.table.specs.Tables.{Table, selectors_of}
use Rattle.matcher.specs.Answers.{Rules}
use Rattle.keys.specs.declared.CascadeEntryKey.{CascadeEntryKey}
use Rattle.keys.specs.Keys.{key_from}
use Rattle.covered.specs.Covered.{Reached}
use Rattle.promises.specs.Level3.{RepresentsLast, Standard}
use Rattle.promises.proofs.Calls.{rules_exactly}
use Rattle.promises.proofs.Tails.{tail_accepted, yes_fits, diagnosed_fits, tails_fit, last_is}
use Rattle.promises.proofs.Sums.{weighs, sums_are, standard_is, step_few, rule_there, compare_front}

-- ---- `matches_path` and `diagnose_path`

module _ (steps : List ℕ) (n : ℕ) (combinators : List ℕ) (c : ℕ) (path : List ℕ) (m : ℕ) where
  -- diagnosis answers a fit exactly if matching answers yes, whatever is given, refused or not: so that all that follows is so of both
  pub diagnoses_as_matches : (r : Result Bool Refusal) → matching_told r ≡ matching_of steps n combinators c path m → (d : Result Diagnosis Refusal) → diagnosis_told d ≡ diagnosis_of steps n combinators c path m
      → (d ≡ Ok Fits) ↔ (r ≡ Ok true)
  diagnoses_as_matches r e d f =
      let law = answers_agree steps n combinators c path m in (
        λ q. matching_distinct r (Ok true) (e ∙ law.0 (sym f ∙ ap diagnosis_told q)),
        λ q. diagnosis_distinct d (Ok Fits) (f ∙ law.1 (sym e ∙ ap matching_told q)),
      )

  module _ (accepts : path_verdict steps n combinators c path m ≡ 0) where
    -- 01: "A selector fits a path if its steps can be given places so that the first step has the first place, the last has the last, child means the
    -- next place, descendant any later place, and each step matches there. The empty selector fits only the empty path."
    pub matches_by_places : (r : Result Bool Refusal) → matching_told r ≡ matching_of steps n combinators c path m
        → (r ≡ Ok true) ↔ Places step_matches (selector_of steps combinators n) (path_of path m)
    matches_by_places r e =
        let law = matching_places steps n combinators c path m accepts in
        (λ q. law.0 (sym e ∙ ap matching_told q), λ p. matching_distinct r (Ok true) (e ∙ law.1 p))

    pub diagnoses_by_places : (d : Result Diagnosis Refusal) → diagnosis_told d ≡ diagnosis_of steps n combinators c path m
        → (d ≡ Ok Fits) ↔ Places step_matches (selector_of steps combinators n) (path_of path m)
    diagnoses_by_places d f =
        let law = answers_agree steps n combinators c path m in
        let places = matching_places steps n combinators c path m accepts in (
          λ q. places.0 (law.0 (sym f ∙ ap diagnosis_told q)),
          λ p. diagnosis_distinct d (Ok Fits) (f ∙ law.1 (places.1 p)),
        )

-- "child and descendant matching are proved against W3C Selectors Level 3": of the calls on the path's tails, the rows after the first j, one answers yes
-- exactly if by Level 3 the selector represents the path's last element. 01: "Record that Level 3 does not fix the first place." Steps there are some:
-- an empty selector is none of Level 3's
module _ (steps : List ℕ) (n : ℕ) (combinators : List ℕ) (c : ℕ) (path : List ℕ) (m : ℕ) (some : 0 < n) (accepts : path_verdict steps n combinators c path m ≡ 0) where
  pub matches_level3 : (r : ℕ → Result Bool Refusal) → ((j : ℕ) → j ≤ m → matching_told (r j) ≡ matching_of steps n combinators c (drop (38 * j) path) (m - j))
      → ((j : ℕ) × (j ≤ m) × (r j ≡ Ok true)) ↔ RepresentsLast (selector_of steps combinators n) (path_of path m)
  matches_level3 r e =
      let law = tails_fit steps n combinators path m some in
      let yes : (j : ℕ) → j ≤ m → (r j ≡ Ok true) ↔ (fits steps n combinators (drop (38 * j) path) (m - j) ≡ true) =
      λ j h. yes_fits steps n combinators c (drop (38 * j) path) (m - j) (tail_accepted path m j h steps n combinators c accepts) (r j) (e j h) in
      (λ (j, h, q). law.0 (j, h, (yes j h).0 q), λ l. let (j, h, t) = law.1 l in (j, h, (yes j h).1 t))

  pub diagnoses_level3 : (d : ℕ → Result Diagnosis Refusal) → ((j : ℕ) → j ≤ m → diagnosis_told (d j) ≡ diagnosis_of steps n combinators c (drop (38 * j) path) (m - j))
      → ((j : ℕ) × (j ≤ m) × (d j ≡ Ok Fits)) ↔ RepresentsLast (selector_of steps combinators n) (path_of path m)
  diagnoses_level3 d f =
      let law = tails_fit steps n combinators path m some in
      let fit : (j : ℕ) → j ≤ m → (d j ≡ Ok Fits) ↔ (fits steps n combinators (drop (38 * j) path) (m - j) ≡ true) =
      λ j h. diagnosed_fits steps n combinators c (drop (38 * j) path) (m - j) (tail_accepted path m j h steps n combinators c accepts) (d j) (f j h) in
      (λ (j, h, q). law.0 (j, h, (fit j h).0 q), λ l. let (j, h, t) = law.1 l in (j, h, (fit j h).1 t))

-- ---- the matched list of a reached state: `matching_rules`

-- the same of a rule in a sheet: it is listed exactly if its selector isn't empty and represents the last element of the path, by Level 3
module _ {w : List ℕ} {t : Table} {number stamp : ℕ} {path : List Tags} (p : Reached w t number stamp path) {whole part : Bor (List ℕ)} (g : Rules w t number stamp whole part) where
  pub lists_level3 : (k : ℕ) → (k ∈ part.now) ↔ RepresentsLast (rule (selectors_of w) k) path
  lists_level3 k = Iff.trans (rules_exactly p g k) (Iff.symm (last_is (rule (selectors_of w) k) path))

-- ---- weights, of a call that answers one

-- `specificity`, and `level3_specificity`: of lent rows
module _ (steps : List ℕ) (n : ℕ) (combinators : List ℕ) (c : ℕ) (s : Specificity) where
  -- 01: "Ranking 0: pseudos, classes, parts, types, each summed over the steps"; and none passes 64: "Prove that the Rust's saturation is never met."
  pub specificity_sums : weighing_told (Ok s) ≡ weighing_of 0 steps n combinators c → Summed (counts_in steps n) s
  unfolding weighing_of
  specificity_sums e = let (z, q) = weighs 0 _ (counts_in steps n) s e in sums_are (counts_in steps n) s q (never_saturates steps n combinators c z)

  -- 01: "Ranking 1 (added): Level 3's specificity, first classes plus pseudos, then types plus parts"; its a, which counts ids, is 0
  pub specificity_level3 : weighing_told (Ok s) ≡ weighing_of 1 steps n combinators c → Standard (counts_in steps n) s
  unfolding weighing_of
  specificity_level3 e = let (z, q) = weighs 1 _ (counts_in steps n) s e in standard_is (counts_in steps n) s q (never_saturates steps n combinators c z)

-- `SelectorStep::specificity`, and `SelectorStep::level3_specificity`: of one step by value
module _ (x : SelectorStep) (s : Specificity) where
  pub step_sums : weighing_told (Ok s) ≡ step_weighing 0 x → Summed (counts_of (as_sets (step_tags x)) ∷ []) s
  unfolding step_weighing
  step_sums e = let (z, q) = weighs 0 _ (counts_of (as_sets (step_tags x)) ∷ []) s e in sums_are _ s q (step_few x (first_clear 2 _ [] (omega arith) z).0)

  pub step_level3 : weighing_told (Ok s) ≡ step_weighing 1 x → Standard (counts_of (as_sets (step_tags x)) ∷ []) s
  unfolding step_weighing
  step_level3 e = let (z, q) = weighs 1 _ (counts_of (as_sets (step_tags x)) ∷ []) s e in standard_is _ s q (step_few x (first_clear 2 _ [] (omega arith) z).0)

-- `rule_weight`: of a rule by number
module _ (w : List ℕ) (k : ℕ) (s : Specificity) where
  pub rule_sums : weighing_told (Ok s) ≡ answered (weight_verdict w k 0) (weight_told (weight_of 0 (counts_for (rule_at w k).selector))) → Summed (counts_for (rule_at w k).selector) s
  rule_sums e = let (z, q) = weighs 0 _ (counts_for (rule_at w k).selector) s e in sums_are _ s q (let (shape, there) = rule_there w k 0 z in rule_never_saturates w k shape there)

  pub rule_level3 : weighing_told (Ok s) ≡ answered (weight_verdict w k 1) (weight_told (weight_of 1 (counts_for (rule_at w k).selector))) → Standard (counts_for (rule_at w k).selector) s
  rule_level3 e = let (z, q) = weighs 1 _ (counts_for (rule_at w k).selector) s e in standard_is _ s q (let (shape, there) = rule_there w k 1 z in rule_never_saturates w k shape there)

-- "compared in that order": two such answers in ranking 1 compare as Level 3 compares the specificities
pub standard_order : {counts counts' : List Counts} {s s' : Specificity} → Standard counts s → Standard counts' s'
    → compare (weight_numbers (weight_from s)) (weight_numbers (weight_from s')) ≡ compare (specificity (simples counts)) (specificity (simples counts'))
standard_order {counts} {counts'} a b = ap₂ (λ (v v' : Weight). compare (weight_numbers v) (weight_numbers v')) a.weight b.weight ∙ weight_order counts counts'

-- and so do two keys of one origin, by `CascadeEntryKey::compare`: where Level 3 tells the specificities apart, index and order don't count
module _ (k k' : CascadeEntryKey) {counts counts' : List Counts} (a : Standard counts k.specificity) (b : Standard counts' k'.specificity) (same : k.origin ≡ k'.origin) where
  pub keys_level3 : (r : ℤ) → r ≡ compare_keys (key_from k) (key_from k')
      → compare (specificity (simples counts)) (specificity (simples counts')) ≢ pos 0
      → r ≡ compare (specificity (simples counts)) (specificity (simples counts'))
  unfolding compare_keys
  keys_level3 r e n =
      let order = standard_order a b in
      e
      ∙ compare_same k.origin k'.origin _ _ same
      ∙ compare_front (weight_numbers (weight_from k.specificity)) (weight_numbers (weight_from k'.specificity)) _ _ refl (λ z. n (sym order ∙ z))
      ∙ order
