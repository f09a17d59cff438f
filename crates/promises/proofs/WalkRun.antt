-- The run of 01's `walk` example, by the calls' contracts alone: what they answer, what is listed, wins and changes. Assumes nothing.
use mathlib.Core.Path.{◌≡◌, ap, ◌∙◌, subst}
use mathlib.Core.List.{List, [], ◌∷◌}
use Prim.Native.Nat.{ℕ, ◌≤◌}
use native.Mathlib.Omega.{arith}
use lib.ListN.{length, drop}
use Rattle.std.specs.Prelude.{Result, Ok, Option, ⊤}
use Rattle.lent.specs.declared.Refusal.{Refusal}
use Rattle.matcher.specs.declared.MatchState.{MatchState}
use Rattle.looking.specs.declared.StyleSourceRef.{StyleSourceRef}
use Rattle.lent.specs.Refusals.{answered}
use Rattle.typed.specs.Typed.{inputs_row}
use Rattle.sheet.specs.Sheets.{sheet_of}
use Rattle.made.specs.Made.{Made}
use Rattle.made.proofs.Promises.{made_shaped}
use Rattle.table.specs.Tables.{Table, selectors_of, ranking_in, state_at}
use Rattle.table.specs.Calls.{state_verdict}
use Rattle.building.specs.Answers.{Build}
use Rattle.entering.specs.Answers.{Enter}
use Rattle.changeset.specs.Sets.{changing_told, Lists}
use Rattle.looking.specs.Calls.{winner_in}
use Rattle.looking.specs.Answers.{winning_told, winner_told}
use Rattle.cascade.specs.Calls.{changed_in, changed_verdict}
use Rattle.covered.specs.Covered.{Reached}
use Rattle.covered.proofs.Reached.{reached_covered}
use Rattle.promises.specs.Walk.{typed, subject, walk_sheet, walk, Lent, state}
use Rattle.promises.proofs.Calls.{enter_keeps, reached_accepted}
use Rattle.promises.proofs.CascadeCalls.{build_ranks, enter_ranks, changed_told, changed_written}
use Rattle.promises.proofs.WalkExample.{walk_1, walk_1_9, walk_1_5, walk_5}
use Rattle.promises.proofs.WalkSteps.{build_starts, enter_1, enter_9, enter_5, enter_5_root}
use Rattle.promises.proofs.WalkSheet.{walk_selectors}
use Rattle.promises.proofs.WalkWinners.{walk_told_1, walk_winner_3, walk_changed, walk_unchanged}

-- Of a made sheet with these selectors: build, then "type 1 into 0; type 9 into 1; type 5 into 1; type 5 into 0".
-- `Lent`: room for four states, four cursors and three matched numbers; `walk` lends far more
module _ {w : List ℕ} (made : Made w) (e : selectors_of w ≡ walk) {stamp ranking : ℕ} (ranks : ranking ≤ 1) {t0 t1 t2 t3 t4 t5 : Table} (eight : length t0.head ≡ 8) (lent : Lent t0)
    {r0 : Result ⊤ Refusal} (b : Build w stamp ranking t0 r0 t1)
    {r1 : Result MatchState Refusal} (a1 : Enter w t1 0 stamp (inputs_row (subject 1)) r1 t2)
    {r2 : Result MatchState Refusal} (a2 : Enter w t2 1 stamp (inputs_row (subject 9)) r2 t3)
    {r3 : Result MatchState Refusal} (a3 : Enter w t3 1 stamp (inputs_row (subject 5)) r3 t4)
    {r4 : Result MatchState Refusal} (a4 : Enter w t4 0 stamp (inputs_row (subject 5)) r4 t5) where
  -- every call is accepted: "state 1", "state 1", "state 2", "state 3"
  pub walk_answers : (r0 ≡ Ok tt) × (r1 ≡ state 1 stamp) × (r2 ≡ state 1 stamp) × (r3 ≡ state 2 stamp) × (r4 ≡ state 3 stamp)
  walk_answers =
      let (q0, h0) = build_starts e (made_shaped made) ranks eight lent b in
      let (q1, h1) = enter_1 e h0 a1 in
      let (q2, h2, _) = enter_9 e h1 a2 in
      let (q3, h3) = enter_5 e h2 a3 in
      let (q4, _) = enter_5_root e h3 a4 in
      (q0, q1, q2, q3, q4)

  -- "matched 0:", "matched 0:", "matched 2: 0 1", "matched 1: 0"
  pub walk_matched : ((state_at t2 1).matched ≡ []) × ((state_at t3 1).matched ≡ []) × ((state_at t4 2).matched ≡ 0 ∷ 1 ∷ []) × ((state_at t5 3).matched ≡ 0 ∷ [])
  walk_matched =
      let (_, h0) = build_starts e (made_shaped made) ranks eight lent b in
      let (_, h1) = enter_1 e h0 a1 in
      let (_, h2, nine) = enter_9 e h1 a2 in
      let (_, h3) = enter_5 e h2 a3 in
      let (_, five) = enter_5_root e h3 a4 in
      (walk_1 e (h1.at 1 (omega arith)), walk_1_9 e nine, walk_1_5 e (h3.at 2 (omega arith)), walk_5 e five)

-- Of a made sheet that holds what the example pushes, in ranking 0: the same calls, and then "changed 3, 2; changed 0, 1; winner 2, 1; winner 2, 3"
module _ {w : List ℕ} (made : Made w) (e : sheet_of w ≡ walk_sheet) {stamp : ℕ} {t0 t1 t2 t3 t4 t5 : Table} (eight : length t0.head ≡ 8) (lent : Lent t0)
    {r0 : Result ⊤ Refusal} (b : Build w stamp 0 t0 r0 t1)
    {r1 : Result MatchState Refusal} (a1 : Enter w t1 0 stamp (inputs_row (subject 1)) r1 t2)
    {r2 : Result MatchState Refusal} (a2 : Enter w t2 1 stamp (inputs_row (subject 9)) r2 t3)
    {r3 : Result MatchState Refusal} (a3 : Enter w t3 1 stamp (inputs_row (subject 5)) r3 t4)
    {r4 : Result MatchState Refusal} (a4 : Enter w t4 0 stamp (inputs_row (subject 5)) r4 t5) where
  record Left : Type 0 where
    at_0 : Reached w t5 0 stamp []
    at_1 : Reached w t5 1 stamp (typed 1 ∷ [])
    at_2 : Reached w t5 2 stamp (typed 1 ∷ typed 5 ∷ [])
    at_3 : Reached w t5 3 stamp (typed 5 ∷ [])
    ranks : ranking_in t5.head ≡ 0

  left : Left
  left =
      let s = walk_selectors w e in
      let (q0, h0) = build_starts s (made_shaped made) (omega arith) eight lent b in
      let (_, h1) = enter_1 s h0 a1 in
      let (_, h2, _) = enter_9 s h1 a2 in
      let (_, h3) = enter_5 s h2 a3 in
      let (_, five) = enter_5_root s h3 a4 in
      let built : Build w stamp 0 t0 (Ok tt) t1 = subst (λ (r : Result ⊤ Refusal). Build w stamp 0 t0 r t1) q0 b in
      record {
        at_0 = enter_keeps (subject 5) (h3.at 0 (omega arith)) a4;
        at_1 = enter_keeps (subject 5) (h3.at 1 (omega arith)) a4;
        at_2 = enter_keeps (subject 5) (h3.at 2 (omega arith)) a4;
        at_3 = five;
        ranks =
            enter_ranks (subject 5) (reached_covered w (h3.at 0 (omega arith))) a4
            ∙ enter_ranks (subject 5) (reached_covered w (h2.at 0 (omega arith))) a3
            ∙ enter_ranks (subject 9) (reached_covered w (h1.at 0 (omega arith))) a2
            ∙ enter_ranks (subject 1) (reached_covered w (h0.at 0 (omega arith))) a1
            ∙ build_ranks eight built;
      }

  module _ {out after : List ℕ} {c : Result ℕ Refusal} where
    -- "changed 2: 1 2"
    pub walk_changed_3_2 : Lists (changed_verdict w t5 3 stamp 2 stamp out) (changed_in w t5 3 2) out c after → 2 ≤ length out
        → (changing_told c ≡ 0 ∷ 2 ∷ []) × (after ≡ 1 ∷ 2 ∷ drop 2 out)
    walk_changed_3_2 l room =
        let z = walk_changed e left.ranks left.at_2 left.at_3 in
        let fits : length (changed_in w t5 3 2) ≤ length out = rw z room in
        let old = reached_accepted left.at_3 in
        let new = reached_accepted left.at_2 in
        (rw z at (changed_told w t5 3 stamp 2 stamp out old new l fits), rw z at (changed_written w t5 3 stamp 2 stamp out old new l fits))

    -- "changed 0:"
    pub walk_changed_0_1 : Lists (changed_verdict w t5 0 stamp 1 stamp out) (changed_in w t5 0 1) out c after → (changing_told c ≡ 0 ∷ 0 ∷ []) × (after ≡ out)
    walk_changed_0_1 l =
        let z = walk_unchanged e left.at_0 left.at_1 in
        let fits : length (changed_in w t5 0 1) ≤ length out = rw z (omega arith) in
        let old = reached_accepted left.at_0 in
        let new = reached_accepted left.at_1 in
        (rw z at (changed_told w t5 0 stamp 1 stamp out old new l fits), rw z at (changed_written w t5 0 stamp 1 stamp out old new l fits))

  module _ (a : Result (Option StyleSourceRef) Refusal) where
    -- "winner 1: rule 1 source 1"
    pub walk_winner_2_1 : winning_told a ≡ answered (state_verdict w t5 2 stamp) (winner_told w (winner_in w t5 2 1)) → winning_told a ≡ 0 ∷ 2 ∷ 1 ∷ 1 ∷ []
    walk_winner_2_1 h = rw (reached_accepted left.at_2) at h ∙ walk_told_1 e left.ranks left.at_2

    -- "winner 3: none"
    pub walk_winner_2_3 : winning_told a ≡ answered (state_verdict w t5 2 stamp) (winner_told w (winner_in w t5 2 3)) → winning_told a ≡ 0 ∷ 0 ∷ []
    walk_winner_2_3 h = rw (reached_accepted left.at_2) at h ∙ ap (winner_told w) (walk_winner_3 e left.ranks left.at_2)
