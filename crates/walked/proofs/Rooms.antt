-- What `walk` prints does not depend on the room that it lends for transitions. Assumes nothing.
use mathlib.Core.Path.{◌≡◌, refl, sym, ap, ap₂, ◌∙◌}
use mathlib.Core.Bool.{Bool, true, false, cond}
use mathlib.Core.List.{List, [], ◌∷◌, ◌++◌}
use Prim.Native.Nat.{ℕ, zero, suc, ◌+◌}
use lib.ListN.{length, drop, replicate}
use lib.Dec.{eqb}
use borrow.Author.Tests.{eqb-true}
use Rattle.table.specs.Tables.{Table, ranking_in, stamp_in}
use Rattle.table.specs.Calls.{build_verdict}
use Rattle.table.proofs.Shaped.{unshaped}
use Rattle.winners.specs.Winners.{winner_of}
use Rattle.changes.specs.Changes.{changed_of}
use Rattle.looking.specs.Calls.{rules_at, winner_in}
use Rattle.looking.proofs.Verdicts.{state_passed}
use Rattle.cascade.specs.Calls.{changed_in, pair_verdict}
use Rattle.cascade.proofs.Verdicts.{pair_passed}
use Rattle.covered.proofs.Sound.{sound_shaped}
use Rattle.covered.proofs.Reached.{builds_sound}
use Rattle.records.specs.declared.Record.{Record}
use Rattle.records.specs.Records.{size_of, is_whole, record_in}
use Rattle.records.specs.Rows.{empty_row}
use Rattle.gather.specs.Opened.{Open, nothing}
use Rattle.gather.specs.Making.{making_verdict, sheet_after, open_after}
use Rattle.wording.specs.Lines.{refused_line, state_line, changed_line, winner_line}
use Rattle.replies.specs.Walking.{Walking, walking, subject_of, printed, item_fault, entering_verdict, child_in, entered_in, enter_after, changing_verdict, winning_verdict, walking_verdict, accepted_line, walking_line, items_after, table_after, walking_after, ends}
use Rattle.house.specs.House.{Phase, first, making, walks, empty_sheet, lent_table, Outcome, stops, leads, unless, first_verdict, built_of, making_outcome, outcome, printing, onward, reached_in, ending, after, walk_of}
use Rattle.walked.proofs.Never.{changed_is_pair}
use Rattle.walked.proofs.Alike.{Alike, built_alike, same_rules, same_state_lem, same_pair, same_enter, same_child, entered_alike, same_listed}

-- an answer counts only where the call is accepted
printed_same : (v v' offset : ℕ) (line line' : List ℕ) → v ≡ v' → (v ≡ 0 → line ≡ line') → printed v offset line ≡ printed v' offset line'
printed_same v v' offset line line' e f = by (eqb v 0) refl ∙ ap (λ (z : ℕ). printed z offset line') e
  where
    by : (b : Bool) → eqb v 0 ≡ b → cond b line (refused_line v offset) ≡ cond b line' (refused_line v offset)
    by true q = f (eqb-true v 0 q)
    by false q = refl

-- ---- records 9 to 12, over alike tables

module _ {w : List ℕ} {t t' : Table} (a : Alike w t t') (items : List ℕ) where
  abbrev one : Walking
  one = walking w t items

  abbrev other : Walking
  other = walking w t' items

  same_entered : (parent : ℕ) → entering_verdict one parent ≡ 0
      → state_line (child_in one parent) (rules_at (entered_in one parent) (child_in one parent)) ≡ state_line (child_in other parent) (rules_at (entered_in other parent) (child_in other parent))
  same_entered parent z =
      let v' : entering_verdict other parent ≡ 0 = sym (same_enter w a parent (subject_of items)) ∙ z in
      ap₂ state_line (same_child w a parent (stamp_in t.head) (stamp_in t'.head) (subject_of items) z v') (same_listed w a parent (stamp_in t.head) (stamp_in t'.head) (subject_of items) z v')

  same_changed : (old new : ℕ) → pair_verdict w t old (stamp_in t.head) new (stamp_in t.head) ≡ 0 → changed_in w t old new ≡ changed_in w t' old new
  same_changed old new z =
      let p = pair_passed w t.head t.states t.cursors t.matched t.transitions old (stamp_in t.head) new (stamp_in t.head) _ refl z in
      ap₂ (λ (x y : List ℕ). changed_of w (ranking_in t.head) x y) (same_rules w a old p.1.0) (same_rules w a new p.1.1)
      ∙ ap (λ (r : ℕ). changed_of w r (rules_at t' old) (rules_at t' new)) a.ranking

  changing_is : (old new : ℕ) → changing_verdict one old new ≡ pair_verdict w t old (stamp_in t.head) new (stamp_in t.head)
  changing_is old new = changed_is_pair w t (a.sound.sheet, unshaped (sound_shaped w a.sound)) old new (stamp_in t.head) (stamp_in t.head)

  same_changing : (old new : ℕ) → changing_verdict one old new ≡ changing_verdict other old new
  same_changing old new =
      let i' = changed_is_pair w t' (a.sound'.sheet, unshaped (sound_shaped w a.sound')) old new (stamp_in t'.head) (stamp_in t'.head) in
      changing_is old new ∙ same_pair w a old new ∙ sym i'

  same_winner : (state property : ℕ) → winning_verdict one state ≡ 0 → winner_in w t state property ≡ winner_in w t' state property
  same_winner state property z =
      let p = state_passed w t.head t.states t.cursors t.matched t.transitions state (stamp_in t.head) _ refl z in
      ap₂ (λ (r : ℕ) (rules : List ℕ). winner_of w r rules property) a.ranking (same_rules w a state p.1)

  same_verdict : (r : Record) → walking_verdict one r ≡ walking_verdict other r
  unfolding walking_verdict
  same_verdict r = rw (same_enter w a r.first (subject_of items), same_changing r.first r.second, same_state_lem w a r.first)

  same_accepted : (r : Record) → walking_verdict one r ≡ 0 → accepted_line one r ≡ accepted_line other r
  unfolding walking_verdict accepted_line
  same_accepted r = by (eqb r.kind 9) (eqb r.kind 10) (eqb r.kind 11) (eqb r.kind 12)
    where
      enters : Walking → List ℕ
      enters s = state_line (child_in s r.first) (rules_at (entered_in s r.first) (child_in s r.first))

      changes : Table → List ℕ
      changes x = changed_line (changed_in w x r.first r.second)

      wins : Table → List ℕ
      wins x = winner_line w r.second (winner_in w x r.first r.second)

      by : (b c d e : Bool)
          → cond b (item_fault items r.first) (cond c (entering_verdict one r.first) (cond d (changing_verdict one r.first r.second) (cond e (winning_verdict one r.first) 10))) ≡ 0
          → cond b [] (cond c (enters one) (cond d (changes t) (cond e (wins t) []))) ≡ cond b [] (cond c (enters other) (cond d (changes t') (cond e (wins t') [])))
      by true c d e z = refl
      by false true d e z = same_entered r.first z
      by false false true e z = ap changed_line (same_changed r.first r.second (sym (changing_is r.first r.second) ∙ z))
      by false false false true z = ap (winner_line w r.second) (same_winner r.first r.second z)
      by false false false false z = refl

  same_line : (offset : ℕ) (r : Record) → walking_line one offset r ≡ walking_line other offset r
  unfolding walking_line
  same_line offset r = printed_same (walking_verdict one r) (walking_verdict other r) offset (accepted_line one r) (accepted_line other r) (same_verdict r) (same_accepted r)

  same_items : (r : Record) → items_after one r ≡ items_after other r
  unfolding items_after
  same_items r = refl

  same_ends : (r : Record) → ends one r ≡ ends other r
  unfolding ends
  same_ends r = ap (λ (v : ℕ). eqb v 10) (same_verdict r)

  enter_alike : (parent : ℕ) → Alike w (enter_after one parent) (enter_after other parent)
  unfolding enter_after
  enter_alike parent =
      let e = same_enter w a parent (subject_of items) in
      rw (← e) (by (eqb (entering_verdict one parent) 0) refl)
    where
      by : (b : Bool) → eqb (entering_verdict one parent) 0 ≡ b → Alike w (cond b (entered_in one parent) t) (cond b (entered_in other parent) t')
      by true q =
          let z = eqb-true (entering_verdict one parent) 0 q in
          entered_alike w a parent (stamp_in t.head) (stamp_in t'.head) (subject_of items) z (sym (same_enter w a parent (subject_of items)) ∙ z)
      by false q = a

  after_alike : (r : Record) → Alike w (table_after one r) (table_after other r)
  unfolding table_after
  after_alike r = by (eqb r.kind 10)
    where
      by : (b : Bool) → Alike w (cond b (enter_after one r.first) t) (cond b (enter_after other r.first) t')
      by true = enter_alike r.first
      by false = a

-- ---- phases that print the same from here on, and outcomes

data Twin : Phase → Phase → Type 0 where
  none : Twin first first
  makes : (w : List ℕ) (o : Open) (ranking stamp : ℕ) → Twin (making w o ranking stamp) (making w o ranking stamp)
  goes : {w : List ℕ} {t t' : Table} (items : List ℕ) → Alike w t t' → Twin (walks (walking w t items)) (walks (walking w t' items))

data Both : Outcome → Outcome → Type 0 where
  stop : (text : List ℕ) → Both (stops text) (stops text)
  lead : (text : List ℕ) {p p' : Phase} → Twin p p' → Both (leads text p) (leads text p')

unless_both : (verdict offset : ℕ) {p p' : Phase} → (verdict ≡ 0 → Twin p p') → Both (unless verdict offset p) (unless verdict offset p')
unless_both verdict offset {p} {p'} f = by (eqb verdict 0) refl
  where
    by : (b : Bool) → eqb verdict 0 ≡ b → Both (cond b (leads [] p) (stops (refused_line verdict offset))) (cond b (leads [] p') (stops (refused_line verdict offset)))
    by true e = lead [] (f (eqb-true verdict 0 e))
    by false e = stop (refused_line verdict offset)

ends_both : (b b' : Bool) (l l' : List ℕ) {p p' : Phase} → b ≡ b' → l ≡ l' → Twin p p' → Both (cond b (stops l) (leads l p)) (cond b' (stops l') (leads l' p'))
ends_both b b' l l' {p} {p'} e f t = rw (e, f) (by b')
  where
    by : (c : Bool) → Both (cond c (stops l') (leads l' p)) (cond c (stops l') (leads l' p'))
    by true = stop l'
    by false = lead l' t

after_both : {o o' : Outcome} → Both o o' → (f f' : Phase → List ℕ) → ((p p' : Phase) → Twin p p' → f p ≡ f' p') → after f o ≡ after f' o'
after_both (stop text) f f' h = refl
after_both (lead text {p = p} {p' = p'} t) f f' h = ap (λ (l : List ℕ). text ++ l) (h p p' t)

printing_both : (lines : List ℕ) {o o' : Outcome} → Both o o' → Both (printing lines o) (printing lines o')
printing_both lines (stop text) = stop (lines ++ text)
printing_both lines (lead text t) = lead (lines ++ text) t

onward_both : {o o' : Outcome} → Both o o' → (f f' : Phase → Outcome) → ((p p' : Phase) → Twin p p' → Both (f p) (f' p')) → Both (onward f o) (onward f' o')
onward_both (stop text) f f' h = stop text
onward_both (lead text {p = p} {p' = p'} t) f f' h = printing_both text (h p p' t)

whole_both : (b : Bool) (line : List ℕ) {o o' : Outcome} → Both o o' → Both (cond b o (stops line)) (cond b o' (stops line))
whole_both true line t = t
whole_both false line t = stop line

ending_same : {p p' : Phase} → Twin p p' → (offset : ℕ) → ending p offset ≡ ending p' offset
ending_same none offset = refl
ending_same (makes w o ranking stamp) offset = refl
ending_same (goes items a) offset = refl

walk_twin : {w : List ℕ} {t t' : Table} (items : List ℕ) → Alike w t t' → (r : Record) → Twin (walks (walking_after (walking w t items) r)) (walks (walking_after (walking w t' items) r))
walk_twin {t' = t'} items a r = rw (same_items a items r) (goes (items_after (walking _ t' items) r) (after_alike a items r))

module _ (r r' : ℕ) where
  -- "8 end of sheet": the two tables that are built
  built_twin : (w : List ℕ) (ranking stamp : ℕ) → build_verdict w ranking (lent_table r).states (lent_table r).cursors ≡ 0 → Twin (walks (built_of r w ranking stamp)) (walks (built_of r' w ranking stamp))
  built_twin w ranking stamp z =
      goes (empty_row 16)
      (built_alike w (replicate 8 0) (lent_table r).states (lent_table r).cursors (lent_table r).matched (lent_table r).transitions (lent_table r').transitions stamp ranking
      (builds_sound w (lent_table r) stamp ranking (refl, z))
      (builds_sound w (lent_table r') stamp ranking (refl, z)))

  making_both : (w : List ℕ) (o : Open) (ranking stamp offset : ℕ) (x : Record) → Both (making_outcome r w o ranking stamp offset x) (making_outcome r' w o ranking stamp offset x)
  unfolding making_outcome
  making_both w o ranking stamp offset x = by (eqb (making_verdict w o x) 0) (eqb x.kind 8)
    where
      w' : List ℕ
      w' = sheet_after w o x

      verdict : ℕ
      verdict = build_verdict w' ranking (lent_table r).states (lent_table r).cursors

      by : (b c : Bool)
          → Both (cond b (cond c (unless verdict offset (walks (built_of r w' ranking stamp))) (leads [] (making w' (open_after o x) ranking stamp))) (stops (refused_line (making_verdict w o x) offset)))
          (cond b (cond c (unless verdict offset (walks (built_of r' w' ranking stamp))) (leads [] (making w' (open_after o x) ranking stamp))) (stops (refused_line (making_verdict w o x) offset)))
      by true true = unless_both verdict offset (built_twin w' ranking stamp)
      by true false = lead [] (makes w' (open_after o x) ranking stamp)
      by false c = stop (refused_line (making_verdict w o x) offset)

  outcome_both : {p p' : Phase} → Twin p p' → (offset : ℕ) (x : Record) → Both (outcome r p offset x) (outcome r' p' offset x)
  unfolding outcome
  outcome_both none offset x = unless_both (first_verdict x) offset (λ z. makes empty_sheet nothing x.first x.second)
  outcome_both (makes w o ranking stamp) offset x = making_both w o ranking stamp offset x
  outcome_both (goes {w = w} {t = t} {t' = t'} items a) offset x =
      ends_both (ends (walking w t items) x) (ends (walking w t' items) x) (walking_line (walking w t items) offset x) (walking_line (walking w t' items) offset x) (same_ends a items x) (same_line a items offset x) (walk_twin items a x)

  reached_both : (turns : ℕ) {p p' : Phase} → Twin p p' → (offset : ℕ) (bytes : List ℕ) → Both (reached_in r turns p offset bytes) (reached_in r' turns p' offset bytes)
  unfolding reached_in
  reached_both zero t offset bytes = lead [] t
  reached_both (suc turns) t offset [] = lead [] t
  reached_both (suc turns) t offset (b ∷ l) =
      whole_both (is_whole (b ∷ l)) (refused_line 10 offset)
      (onward_both (outcome_both t offset (record_in (b ∷ l))) (λ next. reached_in r turns next (offset + size_of b) (drop (size_of b) (b ∷ l))) (λ next. reached_in r' turns next (offset + size_of b) (drop (size_of b) (b ∷ l)))
      (λ p p' u. reached_both turns u (offset + size_of b) (drop (size_of b) (b ∷ l))))

-- THE THEOREM: whatever room is lent for transitions, the output is the same
pub room_never_tells : (r r' : ℕ) (input : List ℕ) → walk_of r input ≡ walk_of r' input
room_never_tells r r' input =
    after_both (reached_both r r' (length input) none 0 input) (λ next. ending next (0 + length input)) (λ next. ending next (0 + length input)) (λ p p' t. ending_same t (0 + length input))
