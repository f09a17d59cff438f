-- From the public calls' contracts to covered tables and reached states: t is the memory that a call gets, t' the memory that it leaves. Assumes nothing.
use mathlib.Core.Path.{◌≡◌, sym, ap, ◌∙◌, subst}
use mathlib.Core.Bool.{true}
use mathlib.Core.Logic.{◌↔◌}
use mathlib.Core.List.{List, [], ◌∷◌, ◌++◌}
use Prim.Native.Nat.{ℕ, ◌+◌, ◌*◌, ◌<◌}
use lib.ListN.{length}
use borrow.Author.Tests.{lt-ltb, eq-eqb}
use denote.Ref.{Bor}
use Rattle.std.specs.Prelude.{Result, Ok, Err}
use Rattle.theory.specs.Lists.{◌∈◌, Ascending}
use Rattle.theory.specs.Paths.{FitsTail}
use Rattle.theory.specs.States.{root as rootOf, rule, enter}
use Rattle.lent.specs.Pool.{start_of}
use Rattle.lent.specs.Refusals.{first_of}
use Rattle.lent.specs.declared.Refusal.{Refusal}
use Rattle.selector.specs.Tags.{Tags, step_matches}
use Rattle.typed.specs.declared.SelectorInputs.{SelectorInputs}
use Rattle.typed.specs.Typed.{inputs_tags, inputs_row}
use Rattle.table.specs.Tables.{Table, selectors_of, stamp_in, states_in, transitions_in, matched_ends, state_at}
use Rattle.table.specs.Entering as Memory
use Rattle.table.specs.Entering.{transition_fits}
use Rattle.table.specs.Calls.{not_a_state, state_verdict}
use Rattle.matcher.specs.Answers.{Part, Rules}
use Rattle.matcher.specs.declared.MatchState.{MatchState}
use Rattle.matcher.proofs.Distinct.{listing_distinct}
use Rattle.building.specs.Answers.{Build}
use Rattle.building.proofs.Answers.{built_is, build_refused_is}
use Rattle.entering.specs.Answers.{Enter}
use Rattle.entering.proofs.Answers.{entered_is, enter_refused_is, entering_distinct}
use Rattle.covered.specs.Covered.{Covered, Reached, After, Numbered}
use Rattle.covered.specs.Covered.Covered.{built, entered}
use Rattle.covered.specs.Covered.Reached.{root, child, later}
use Rattle.covered.specs.Covered.After.{more}
use Rattle.covered.specs.Rooms.{held_in, including}
use Rattle.covered.proofs.Rooms.{held_built, held_entered}
use Rattle.covered.proofs.Reached.{reached_covered, reached_is}
use Rattle.promises.specs.Paths.{rules_on}
use Rattle.promises.proofs.Listed.{count_is_length, listed_exactly, listed_ascending, listed_is, equal_subjects_one_child, kept_found, child_state, next_number, covered_in_shape}

module _ {w : List ℕ} where
  -- ---- `build`, where it answers Ok

  module _ {t t' : Table} {stamp ranking : ℕ} (eight : length t.head ≡ 8) (b : Build w stamp ranking t (Ok tt) t') where
    pub build_covers : Covered w t'
    build_covers = let (v, e) = built_is b in subst (Covered w) (sym e) (built t stamp ranking (eight, v))

    -- `root_state`: number 0, and the stamp given
    pub build_reaches : Reached w t' 0 stamp []
    build_reaches = let (v, e) = built_is b in subst (λ (u : Table). Reached w u 0 stamp []) (sym e) (root t stamp ranking (eight, v))

    -- the table holds the root alone:
    pub build_holds_root : held_in t' ≡ rootOf (selectors_of w) ∷ []
    build_holds_root = let (v, e) = built_is b in ap held_in e ∙ held_built w t stamp ranking (eight, v)

    pub build_one_state : states_in t'.head ≡ 1
    build_one_state = count_is_length t' ∙ ap length build_holds_root

  -- where it refuses, of whatever sheet, nothing is disturbed
  module _ {v : List ℕ} {t t' : Table} {stamp ranking : ℕ} {y : Refusal} (b : Build v stamp ranking t (Err y) t') where
    pub refused_build_covers : Covered w t → Covered w t'
    refused_build_covers c = subst (Covered w) (sym (build_refused_is b)) c

    pub refused_build_after : {z : Table} → After w z t → After w z t'
    refused_build_after {z} a = subst (After w z) (sym (build_refused_is b)) a

    pub refused_build_keeps : {k kstamp : ℕ} {path : List Tags} → Reached w t k kstamp path → Reached w t' k kstamp path
    refused_build_keeps {k} {kstamp} {path} p = subst (λ (z : Table). Reached w z k kstamp path) (sym (build_refused_is b)) p

  -- ---- `enter`: "refused calls and calls in between may not disturb it"

  -- where it refuses, of whatever sheet, parent and subject, nothing is disturbed
  module _ {v : List ℕ} {t t' : Table} {number stamp : ℕ} {row : List ℕ} {y : Refusal} (u : Enter v t number stamp row (Err y) t') where
    pub refused_enter_covers : Covered w t → Covered w t'
    refused_enter_covers c = subst (Covered w) (sym (enter_refused_is u)) c

    pub refused_enter_after : {z : Table} → After w z t → After w z t'
    refused_enter_after {z} a = subst (After w z) (sym (enter_refused_is u)) a

    pub refused_enter_keeps : {k kstamp : ℕ} {path : List Tags} → Reached w t k kstamp path → Reached w t' k kstamp path
    refused_enter_keeps {k} {kstamp} {path} p = subst (λ (z : Table). Reached w z k kstamp path) (sym (enter_refused_is u)) p

  module _ {t t' : Table} {number stamp : ℕ} (x : SelectorInputs) where
    -- whatever it answers, a covered table stays covered,
    pub enter_covers : {r : Result MatchState Refusal} → Covered w t → Enter w t number stamp (inputs_row x) r t' → Covered w t'
    enter_covers {r = Ok s} c u = let (v, _, _, e) = entered_is u in subst (Covered w) (sym e) (entered c number stamp x v)
    enter_covers {r = Err y} c u = refused_enter_covers u c

    -- it is one of the accepted calls after which states are kept, or none,
    pub enter_after_lem : {u : Table} {r : Result MatchState Refusal} → After w u t → Enter w t number stamp (inputs_row x) r t' → After w u t'
    enter_after_lem {u = u} {r = Ok s} a c = let (v, _, _, e) = entered_is c in subst (After w u) (sym e) (more a number stamp x v)
    enter_after_lem {u = u} {r = Err y} a c = refused_enter_after c a

    -- and a reached state stays reached;
    pub enter_keeps : {k kstamp : ℕ} {path : List Tags} {r : Result MatchState Refusal} → Reached w t k kstamp path → Enter w t number stamp (inputs_row x) r t' → Reached w t' k kstamp path
    enter_keeps {k = k} {kstamp = kstamp} {path = path} {r = Ok s} p u =
        let (v, _, _, e) = entered_is u in subst (λ (z : Table). Reached w z k kstamp path) (sym e) (later p number stamp x v)
    enter_keeps {r = Err y} p u = refused_enter_keeps u p

    -- the state that it answers is reached by one element more
    pub enter_reaches : {path : List Tags} {s : MatchState} → Reached w t number stamp path → Enter w t number stamp (inputs_row x) (Ok s) t'
        → Reached w t' s.number s.stamp (path ++ inputs_tags x ∷ [])
    enter_reaches p u = let (v, n, m, e) = entered_is u in rw (n, m, e) (child p x v)

    -- that state is the subject's under the parent,
    pub enter_state : {s : MatchState} → Covered w t → Enter w t number stamp (inputs_row x) (Ok s) t'
        → state_at t' s.number ≡ enter step_matches (selectors_of w) (state_at t number) (inputs_tags x)
    enter_state c u = let (v, n, _, e) = entered_is u in rw (n, e) (child_state c number stamp x v)

    -- the table holds the states of before and that one, unless it was held already,
    pub enter_holds_child : {s : MatchState} → Covered w t → Enter w t number stamp (inputs_row x) (Ok s) t'
        → held_in t' ≡ including (held_in t) (enter step_matches (selectors_of w) (state_at t number) (inputs_tags x))
    enter_holds_child c u = let (v, _, _, e) = entered_is u in ap held_in e ∙ held_entered w c number stamp x v

    -- and it has the number of an equal state held before or, where none is equal, the next one
    pub enter_numbers : {s : MatchState} → Covered w t → Enter w t number stamp (inputs_row x) (Ok s) t' → Numbered t t' s.number
    enter_numbers c u = let (v, n, _, e) = entered_is u in rw (n, e) (next_number c number stamp x v)

  -- "two entries of equal subjects from one parent give one child": x is entered, then anything else, then y from the same parent
  module _ {t t' t'' t''' : Table} {number stamp : ℕ} (x y : SelectorInputs) (same : inputs_tags x ≡ inputs_tags y) {s : MatchState} {r : Result MatchState Refusal} (c : Covered w t)
      (u : Enter w t number stamp (inputs_row x) (Ok s) t') (a : After w t' t'') (u' : Enter w t'' number stamp (inputs_row y) r t''') where
    after_x : After w (Memory.entered w t number (inputs_row x)) t''
    after_x = let (_, _, _, e) = entered_is u in subst (λ (z : Table). After w z t'') e a

    -- the answer is the same,
    pub same_answer : r ≡ Ok s
    same_answer =
        let (v, n, m, _) = entered_is u in
        let (ok, k) = equal_subjects_one_child c number stamp x v y same after_x in
        entering_distinct r (Ok s) (rw (ok, k) at u'.answer ∙ rw (n, m))

    -- and where there was room to keep the transition of x, the second entering changes no word
    pub same_memory : transition_fits (transitions_in t.head) (length t.transitions) ≡ true → t''' ≡ t''
    same_memory room =
        let (v, _, _, _) = entered_is u in
        let (ok, _) = equal_subjects_one_child c number stamp x v y same after_x in
        rw ok at u'.memory ∙ kept_found c number stamp x v room y same after_x

  -- ---- the matched list of a reached state

  module _ {t : Table} {number stamp : ℕ} {path : List Tags} (p : Reached w t number stamp path) where
    -- it is not refused
    pub reached_accepted : state_verdict w t number stamp ≡ 0
    unfolding state_verdict not_a_state first_of
    reached_accepted =
        let (l, e, _) = reached_is w p in
        rw (covered_in_shape (reached_covered w p), eq-eqb stamp (stamp_in t.head) e, lt-ltb number (states_in t.head) l)

    -- `matching_rules`, by its contract
    module _ {whole part : Bor (List ℕ)} (g : Rules w t number stamp whole part) where
      given : part.now ≡ (state_at t number).matched
      given = rw reached_accepted at g.numbers

      -- it gives exactly the rules whose selector isn't empty and fits some tail of the path,
      pub rules_exactly : (k : ℕ) → (k ∈ part.now) ↔ ((0 < length (rule (selectors_of w) k)) × FitsTail step_matches (rule (selectors_of w) k) path)
      rules_exactly k = rw given (listed_exactly p k)

      -- ascending, each once:
      pub rules_ascending : Ascending part.now
      rules_ascending = rw given (listed_ascending p)

      -- of the sheet's rules those that pass the test, in order
      pub rules_given_lem : part.now ≡ rules_on w path
      rules_given_lem = given ∙ listed_is p

      -- "handed back as the part of the lent buffer that holds it": it stands where they stand in the buffer
      pub rules_place : (part.ref_ptr.0 ≡ whole.ref_ptr.0) × (part.ref_ptr.1 ≡ whole.ref_ptr.1 + 4 * start_of (matched_ends t.states) number)
      rules_place = (g.block, rw reached_accepted at g.place)

    -- `matching_part`: what it answers is where they stand
    pub part_given_lem : {r : Result (ℕ × ℕ) Refusal} → Part w t number stamp r → r ≡ Ok (start_of (matched_ends t.states) number, matched_ends t.states number)
    part_given_lem {r} g = listing_distinct r (Ok (start_of (matched_ends t.states) number, matched_ends t.states number)) (rw reached_accepted at g.answer)
