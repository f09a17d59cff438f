-- From the contracts of the cascade's calls to winners and changes of paths: t is the table's memory, which they only read. Assumes nothing.
use mathlib.Core.Path.{◌≡◌, refl, sym, ap, ◌∙◌}
use mathlib.Core.Logic.{◌↔◌}
use mathlib.Core.Bool.{Bool, true, false, cond}
use mathlib.Core.Option.{Option}
use mathlib.Core.List.{List, [], ◌∷◌, ◌++◌}
use Prim.Native.Nat.{ℕ, ◌≤◌, ◌<◌}
use native.Mathlib.Nat.{zero-add}
use native.Mathlib.Omega.{arith}
use lib.ListN.{length, get_or, drop}
use lib.Seq.{sets, sets-eq}
use lib.Dec.{ltb, eqb}
use borrow.Author.Tests.{ltb-true, ltb-false, le-ltb, lt-ltb, eqb-true}
use Rattle.std.specs.Prelude.{Result, Ok}
use Rattle.std.specs.Prelude.{Option as Optional}
use Rattle.lent.specs.declared.Refusal.{Refusal}
use Rattle.matcher.specs.declared.MatchState.{MatchState}
use Rattle.looking.specs.declared.StyleSourceRef.{StyleSourceRef}
use Rattle.channels.specs.declared.ChannelSet.{ChannelSet}
use Rattle.lent.specs.Refusals.{answered, first_of}
use Rattle.lent.proofs.Refusals.{first_clear}
use Rattle.selector.specs.Tags.{Tags}
use Rattle.typed.specs.declared.SelectorInputs.{SelectorInputs}
use Rattle.typed.specs.Typed.{inputs_row}
use Rattle.style.specs.Entries.{Entry}
use Rattle.table.specs.Tables.{Table, ranking_in}
use Rattle.table.specs.Calls.{broken, not_a_state, state_verdict}
use Rattle.building.specs.Answers.{Build}
use Rattle.building.proofs.Answers.{built_is}
use Rattle.entering.specs.Answers.{Enter}
use Rattle.winners.specs.Winners.{winner_of, entry_of}
use Rattle.channels.specs.Channels.{channels_of}
use Rattle.changeset.specs.Sets.{changing_told, Lists}
use Rattle.changes.specs.Changes.{changed_of}
use Rattle.looking.specs.Calls.{winner_in, entry_in}
use Rattle.looking.specs.Answers.{winning_told, winner_told}
use Rattle.cascade.specs.Calls.{changed_in, pair_verdict, changed_verdict}
use Rattle.cascade.specs.Answers.{channels_told}
use Rattle.covered.specs.Covered.{Covered, Reached}
use Rattle.covered.specs.Covered.After.{none}
use Rattle.promises.specs.Paths.{rules_on}
use Rattle.promises.proofs.Calls.{enter_after_lem, reached_accepted}
use Rattle.promises.proofs.Winning.{built_ranking, ranking_kept, winner_of_path}
use Rattle.promises.proofs.Changing.{changed_of_paths, same_paths_same_changes}

-- ---- the ranking, by the contracts of `build` and `enter`

module _ {w : List ℕ} {t t' : Table} where
  pub build_ranks : {stamp ranking : ℕ} → length t.head ≡ 8 → Build w stamp ranking t (Ok tt) t' → ranking_in t'.head ≡ ranking
  build_ranks {stamp} {ranking} eight b = let (v, e) = built_is b in ap (λ (u : Table). ranking_in u.head) e ∙ built_ranking w t stamp ranking (eight, v)

  pub enter_ranks : {number stamp : ℕ} (x : SelectorInputs) {r : Result MatchState Refusal} → Covered w t → Enter w t number stamp (inputs_row x) r t' → ranking_in t'.head ≡ ranking_in t.head
  enter_ranks x c u = ranking_kept w c (enter_after_lem x none u)

-- ---- `winning_source_for_id`, `value_kind`, `get_entry_ref`, `resource_key`: a reached state is not refused, and its path decides the answer

module _ {w : List ℕ} {t : Table} {number stamp : ℕ} {path : List Tags} (r : Reached w t number stamp path) (p : ℕ) where
  pub winner_told_lem : (a : Result (Optional StyleSourceRef) Refusal) → winning_told a ≡ answered (state_verdict w t number stamp) (winner_told w (winner_in w t number p))
      → winning_told a ≡ winner_told w (winner_of w (ranking_in t.head) (rules_on w path) p)
  winner_told_lem a e = rw (reached_accepted r) at e ∙ ap (winner_told w) (winner_of_path r p)

  -- `tell` is what the call tells of the winner's entry
  pub entry_told_lem : (tell : Option Entry → List ℕ) (a : List ℕ) → a ≡ answered (state_verdict w t number stamp) (tell (entry_in w t number p))
      → a ≡ tell (entry_of w (winner_of w (ranking_in t.head) (rules_on w path) p) p)
  entry_told_lem tell a e = rw (reached_accepted r) at e ∙ ap (λ s. tell (entry_of w s p)) (winner_of_path r p)

-- so two tables of one ranking answer alike, whatever the numbers of the states
pub winners_alike : {w : List ℕ} {t t' : Table} {k k' stamp stamp' : ℕ} {path : List Tags} → Reached w t k stamp path → Reached w t' k' stamp' path
    → ranking_in t.head ≡ ranking_in t'.head
    → (p : ℕ) (a a' : Result (Optional StyleSourceRef) Refusal)
    → winning_told a ≡ answered (state_verdict w t k stamp) (winner_told w (winner_in w t k p))
    → winning_told a' ≡ answered (state_verdict w t' k' stamp') (winner_told w (winner_in w t' k' p))
    → winning_told a ≡ winning_told a'
winners_alike {w} {path = path} r r' ranks p a a' e e' =
    winner_told_lem r p a e ∙ ap (λ (ranking : ℕ). winner_told w (winner_of w ranking (rules_on w path) p)) ranks ∙ sym (winner_told_lem r' p a' e')

-- ---- `changed_properties` of two states of a table

-- what is answered and left of a list, refused where it is too long
abbrev told_of : List ℕ → List ℕ → List ℕ
told_of out list = answered (cond (ltb (length out) (length list)) 8 0) (0 ∷ length list ∷ [])

abbrev left_in : List ℕ → List ℕ → List ℕ
left_in out list = cond (eqb (cond (ltb (length out) (length list)) 8 0) 0) (sets out 0 list) out

-- a state of a table in good shape
is_state_lem : (w : List ℕ) (t : Table) (number stamp : ℕ) → state_verdict w t number stamp ≡ 0 → (broken w t ≡ false) × (not_a_state t.head number stamp ≡ false)
unfolding state_verdict
is_state_lem w t number stamp e =
    let (a, b) = first_clear 11 (broken w t) _ (omega arith) e in
    (a, (first_clear 4 (not_a_state t.head number stamp) [] (omega arith) b).0)

module _ (w : List ℕ) (t : Table) (old oldStamp new newStamp : ℕ) (out : List ℕ) where
  abbrev list : List ℕ
  list = changed_in w t old new

  abbrev verdict : ℕ
  verdict = changed_verdict w t old oldStamp new newStamp out

  verdict_fits : verdict ≡ 0 → length list ≤ length out
  unfolding changed_verdict
  verdict_fits e =
      let (_, a) = first_clear 11 (broken w t) _ (omega arith) e in
      let (_, b) = first_clear 4 (not_a_state t.head old oldStamp) _ (omega arith) a in
      let (_, c) = first_clear 4 (not_a_state t.head new newStamp) _ (omega arith) b in
      let (d, _) = first_clear 8 (ltb (length out) (length list)) [] (omega arith) c in
      ltb-false (length out) (length list) d

  -- where it is accepted: `out` begins with exactly the changed properties, and "An accepted call leaves what stands past its answer"
  pub changed_listed : {n : ℕ} {after : List ℕ} → Lists (changed_verdict w t old oldStamp new newStamp out) (changed_in w t old new) out (Ok n) after
      → (n ≡ length (changed_in w t old new)) × (after ≡ changed_in w t old new ++ drop n out)
  changed_listed {n} {after} l = at (eqb verdict 0) refl
    where
      at : (b : Bool) → eqb verdict 0 ≡ b → (n ≡ length list) × (after ≡ list ++ drop n out)
      at true e =
          let h = verdict_fits (eqb-true verdict 0 e) in
          let q : n ≡ length list = ap (λ (k : List ℕ). get_or k 1 0) (rw e at l.answer) in
          (q, rw e at l.memory ∙ sets-eq list out 0 (omega arith) ∙ rw (q, zero-add))
      at false e =
          let z : 0 ∷ n ∷ [] ≡ verdict ∷ [] = rw e at l.answer in
          let y = ap length z in
          absurd (omega arith)

  -- both are states of the table, as reached ones are (`reached_accepted`)
  module _ (there : state_verdict w t old oldStamp ≡ 0) (there' : state_verdict w t new newStamp ≡ 0) where
    -- then 8 is the only refusal,
    verdict_is : verdict ≡ cond (ltb (length out) (length list)) 8 0
    unfolding changed_verdict first_of
    verdict_is = let (a, o) = is_state_lem w t old oldStamp there in let (_, n) = is_state_lem w t new newStamp there' in rw (a, o, n)

    module _ {a : Result ℕ Refusal} {after : List ℕ} (l : Lists (changed_verdict w t old oldStamp new newStamp out) (changed_in w t old new) out a after) where
      -- exactly if "the buffer for an answer's list is too short", and then nothing is written;
      pub changed_too_short : (changing_told a ≡ 8 ∷ []) ↔ (length out < length (changed_in w t old new))
      changed_too_short = (λ e. short _ refl e, λ h. rw (verdict_is, lt-ltb (length out) (length list) h) at l.answer)
        where
          short : (b : Bool) → ltb (length out) (length list) ≡ b → changing_told a ≡ 8 ∷ [] → length out < length list
          short true q e = ltb-true (length out) (length list) q
          short false q e =
              let z : 0 ∷ length list ∷ [] ≡ 8 ∷ [] = sym (rw (verdict_is, q) at l.answer) ∙ e in
              let y = ap length z in
              absurd (omega arith)

      pub too_short_writes_none : length out < length (changed_in w t old new) → after ≡ out
      too_short_writes_none h = rw (verdict_is, lt-ltb (length out) (length list) h) at l.memory

      -- with room it answers how many there are, and writes them
      pub changed_told : length (changed_in w t old new) ≤ length out → changing_told a ≡ 0 ∷ length (changed_in w t old new) ∷ []
      changed_told h = rw (verdict_is, le-ltb (length out) (length list) h) at l.answer

      pub changed_written : length (changed_in w t old new) ≤ length out → after ≡ changed_in w t old new ++ drop (length (changed_in w t old new)) out
      changed_written h = rw (verdict_is, le-ltb (length out) (length list) h) at l.memory ∙ sets-eq list out 0 (omega arith) ∙ rw zero-add

      -- answer and memory are those of the list
      changed_by_list : (changing_told a ≡ told_of out (changed_in w t old new)) × (after ≡ left_in out (changed_in w t old new))
      changed_by_list = (rw verdict_is at l.answer, rw verdict_is at l.memory)

-- and of reached states that list is the two paths' (`changed_of_paths`): two tables of one ranking answer alike, and leave the same in the same `out`
module _ {w : List ℕ} {t t' : Table} {old oldStamp new newStamp old' oldStamp' new' newStamp' : ℕ} {from to : List Tags}
    (r : Reached w t old oldStamp from) (q : Reached w t new newStamp to) (r' : Reached w t' old' oldStamp' from) (q' : Reached w t' new' newStamp' to)
    (ranks : ranking_in t.head ≡ ranking_in t'.head) where
  pub changes_alike : {out after after' : List ℕ} {a a' : Result ℕ Refusal}
      → Lists (changed_verdict w t old oldStamp new newStamp out) (changed_in w t old new) out a after
      → Lists (changed_verdict w t' old' oldStamp' new' newStamp' out) (changed_in w t' old' new') out a' after'
      → (changing_told a ≡ changing_told a') × (after ≡ after')
  changes_alike {out} l l' =
      let (x, y) = changed_by_list w t old oldStamp new newStamp out (reached_accepted r) (reached_accepted q) l in
      let (x', y') = changed_by_list w t' old' oldStamp' new' newStamp' out (reached_accepted r') (reached_accepted q') l' in
      let e = same_paths_same_changes r q r' q' ranks in
      (x ∙ ap (told_of out) e ∙ sym x', y ∙ ap (left_in out) e ∙ sym y')

-- ---- `changed_channels`

module _ (w : List ℕ) (t : Table) (old oldStamp new newStamp : ℕ) (masks : List ℕ) (a : Result ChannelSet Refusal)
    (e : channels_told a ≡ answered (pair_verdict w t old oldStamp new newStamp) (0 ∷ channels_of masks (changed_in w t old new) ∷ [])) where
  -- of two states of the table it is not refused,
  pub channels_told_lem : state_verdict w t old oldStamp ≡ 0 → state_verdict w t new newStamp ≡ 0 → channels_told a ≡ 0 ∷ channels_of masks (changed_in w t old new) ∷ []
  unfolding pair_verdict first_of
  channels_told_lem there there' = let (b, o) = is_state_lem w t old oldStamp there in let (_, n) = is_state_lem w t new newStamp there' in rw (b, o, n) at e

  -- and the paths decide the answer
  pub channels_of_paths : {from to : List Tags} → Reached w t old oldStamp from → Reached w t new newStamp to
      → channels_told a ≡ 0 ∷ channels_of masks (changed_of w (ranking_in t.head) (rules_on w from) (rules_on w to)) ∷ []
  channels_of_paths r q = channels_told_lem (reached_accepted r) (reached_accepted q) ∙ ap (λ (l : List ℕ). 0 ∷ channels_of masks l ∷ []) (changed_of_paths r q)

-- in two tables of one ranking alike
pub channels_alike : {w : List ℕ} {t t' : Table} {old oldStamp new newStamp old' oldStamp' new' newStamp' : ℕ} {from to : List Tags}
    → Reached w t old oldStamp from → Reached w t new newStamp to → Reached w t' old' oldStamp' from → Reached w t' new' newStamp' to
    → ranking_in t.head ≡ ranking_in t'.head
    → (masks : List ℕ) (a a' : Result ChannelSet Refusal)
    → channels_told a ≡ answered (pair_verdict w t old oldStamp new newStamp) (0 ∷ channels_of masks (changed_in w t old new) ∷ [])
    → channels_told a' ≡ answered (pair_verdict w t' old' oldStamp' new' newStamp') (0 ∷ channels_of masks (changed_in w t' old' new') ∷ [])
    → channels_told a ≡ channels_told a'
channels_alike {w} {t} {t'} {old} {oldStamp} {new} {newStamp} {old'} {oldStamp'} {new'} {newStamp'} {from} {to} r q r' q' ranks masks a a' e e' =
    channels_of_paths w t old oldStamp new newStamp masks a e r q
    ∙ ap (λ (ranking : ℕ). 0 ∷ channels_of masks (changed_of w ranking (rules_on w from) (rules_on w to)) ∷ []) ranks
    ∙ sym (channels_of_paths w t' old' oldStamp' new' newStamp' masks a' e' r' q')
