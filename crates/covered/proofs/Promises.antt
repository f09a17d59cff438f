-- What accepted enterings leave, and that equal subjects under one state have one child. Assumes nothing.
use mathlib.Core.Path.{◌≡◌, sym, ap, ◌∙◌, subst}
use mathlib.Core.Bool.{true}
use mathlib.Core.List.{List}
use Prim.Native.Nat.{ℕ, ◌≤◌, ◌<◌}
use native.Mathlib.Omega.{arith}
use lib.ListN.{length}
use Rattle.theory.specs.States.{State, enter}
use Rattle.theory.proofs.Spreads.{length_spread}
use Rattle.lent.specs.Pool.{start_of, list_at}
use Rattle.selector.specs.Tags.{Tags, step_matches}
use Rattle.selector.specs.Rows.{row_at}
use Rattle.selector.specs.Checks.{tags_ascend}
use Rattle.typed.specs.declared.SelectorInputs.{SelectorInputs}
use Rattle.typed.specs.Typed.{inputs_tags, inputs_row, class_number, pseudo_number}
use Rattle.table.specs.Tables.{Table, selectors_of, stamp_in, ranking_in, states_in, transitions_in, matched_ends, matched_at, state_at}
use Rattle.table.specs.Entering
use Rattle.covered.specs.Covered.{Enters, Covered, After}
use Rattle.covered.specs.Covered.Covered.{entered}
use Rattle.covered.specs.Covered.After.{none, more}
use Rattle.covered.specs.Rooms.{Proper}
use Rattle.covered.proofs.Columns.{stays_start, stays_part}
use Rattle.covered.proofs.Sound.{LeadsIn}
use Rattle.covered.proofs.Keeps.{Kept, Held, kept_none, kept_then, states_stay, leads_stay, held_stays}
use Rattle.covered.proofs.Accepted.{row_tags, proper_fine, enter_accepted, enter_accepts}
use Rattle.covered.proofs.Entering.{enter_holds, entered_again, child_there, child_has_room}
use Rattle.covered.proofs.Reached.{covered_sound, enters_right}

-- a subject with the same tags and ids as a proper one is proper
pub equal_proper : (x y : SelectorInputs) → inputs_tags x ≡ inputs_tags y → Proper x → Proper y
unfolding inputs_tags
equal_proper x y same p =
    let classes : length (inputs_tags x).classes ≡ length (inputs_tags y).classes = ap (λ (z : Tags). length z.classes) same in
    let pseudos : length (inputs_tags x).pseudos ≡ length (inputs_tags y).pseudos = ap (λ (z : Tags). length z.pseudos) same in
    let m = length_spread (class_number x.classes) 0 x.class_count in
    let n = length_spread (class_number y.classes) 0 y.class_count in
    let i = length_spread (pseudo_number x.pseudos) 0 x.pseudo_count in
    let j = length_spread (pseudo_number y.pseudos) 0 y.pseudo_count in
    record { classes = omega (arith, p.classes); pseudos = omega (arith, p.pseudos); rise = subst (λ (z : Tags). tags_ascend z ≡ true) same p.rise }

module _ (w : List ℕ) where
  after_covered : {t t' : Table} → Covered w t → After w t t' → Covered w t'
  after_covered c none = c
  after_covered c (more a number stamp x v) = entered (after_covered c a) number stamp x v

  after_kept : {t t' : Table} → Covered w t → After w t t' → Kept w t t'
  after_kept c none = kept_none w (covered_sound w c)
  after_kept c (more a number stamp x v) = kept_then w (after_kept c a) (enters_right w (covered_sound w (after_covered c a)) number stamp x v).kept

  -- ---- what they leave

  module _ {t t' : Table} (c : Covered w t) (a : After w t t') where
    -- no state is lost
    pub states_more : states_in t.head ≤ states_in t'.head
    states_more = (after_kept c a).stay.more

    -- stamp and ranking stay
    pub stamp_kept : stamp_in t'.head ≡ stamp_in t.head
    stamp_kept = (after_kept c a).stamp

    pub ranking_kept : ranking_in t'.head ≡ ranking_in t.head
    ranking_kept = (after_kept c a).ranking

    -- each state keeps its lists,
    pub state_kept : (k : ℕ) → k < states_in t.head → state_at t' k ≡ state_at t k
    state_kept = states_stay w (covered_sound w c) (after_kept c a).stay

    -- each matched list its place
    pub from_kept : (k : ℕ) → k < states_in t.head → start_of (matched_ends t'.states) k ≡ start_of (matched_ends t.states) k
    from_kept k h = stays_start (after_kept c a).stay.matched k (omega arith)

    pub to_kept : (k : ℕ) → k < states_in t.head → matched_ends t'.states k ≡ matched_ends t.states k
    to_kept = (after_kept c a).stay.matched.same

    -- and that part of the pool its numbers
    pub part_kept : (k : ℕ) → k < states_in t.head → list_at (matched_ends t.states) t'.matched k ≡ matched_at t.states t.matched k
    part_kept = stays_part (after_kept c a).stay.matched (covered_sound w c).matched

  -- ---- the child

  module _ {t : Table} (c : Covered w t) (number stamp : ℕ) (x : SelectorInputs) (v : Enters w t number stamp x) where
    abbrev t' : Table
    t' = Entering.entered w t number (inputs_row x)

    abbrev k : ℕ
    k = Entering.child_of w t number (inputs_row x)

    child_leads : LeadsIn w t' number k (inputs_tags x)
    child_leads = (enters_right w (covered_sound w c) number stamp x v).leads

    -- it is the state of the subject under the parent
    pub child_is : state_at (Entering.entered w t number (inputs_row x)) (Entering.child_of w t number (inputs_row x)) ≡ enter step_matches (selectors_of w) (state_at t number) (inputs_tags x)
    child_is = child_leads.enters ∙ ap (λ (z : State). enter step_matches (selectors_of w) z (inputs_tags x)) (state_kept c (more none number stamp x v) number (enter_accepted w t number stamp x v).there)

    -- ---- equal subjects

    module _ (y : SelectorInputs) (same : inputs_tags x ≡ inputs_tags y) {t'' : Table} (a : After w t' t'') where
      kept : Kept w t' t''
      kept = after_kept (entered c number stamp x v) a

      leads : LeadsIn w t'' number k (inputs_tags x)
      leads = leads_stay w (covered_sound w (entered c number stamp x v)) kept.stay child_leads

      proper : Proper y
      proper = equal_proper x y same (enter_accepted w t number stamp x v).proper

      enters : state_at t'' k ≡ Entering.next_state w t'' number (row_at 16 (inputs_row y) 0)
      enters = rw (row_tags proper, ← same) leads.enters

      -- whatever was entered in between, an equal subject is accepted,
      pub equal_enters : Enters w t'' number stamp y
      equal_enters =
          enter_accepts w t'' number stamp y kept.sound (record {
            there = leads.parent;
            stamped = (enter_accepted w t number stamp x v).stamped ∙ sym (stamp_kept c (more none number stamp x v)) ∙ sym kept.stamp;
            proper = proper;
            room = child_has_room w kept.sound number leads.parent (inputs_row y) k leads.child enters;
          })

      -- and has the same child
      pub equal_child : Entering.child_of w t'' number (inputs_row y) ≡ Entering.child_of w t number (inputs_row x)
      equal_child = child_there w kept.sound number leads.parent (inputs_row y) k leads.child enters

      -- and changes no word, where there was room for the transition of the first
      pub equal_found : Entering.transition_fits (transitions_in t.head) (length t.transitions) ≡ true → Entering.entered w t'' number (inputs_row y) ≡ t''
      equal_found fits =
          let e = enter_accepted w t number stamp x v in
          let (i, h) = enter_holds w (covered_sound w c) number e.there (inputs_row x) (proper_fine e.proper) e.room fits in
          let held : Held t' number (inputs_tags x) i = rw (row_tags e.proper) at h in
          let later = held_stays w (covered_sound w (entered c number stamp x v)) kept held in
          entered_again w kept.sound number leads.parent (inputs_row y) i (rw (row_tags proper, ← same) later)
