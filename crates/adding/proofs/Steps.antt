-- Laws of a step that is added to the last rule: one for each way through the code. Assumes nothing.
use mathlib.Core.Path.{◌≡◌, refl, sym, ap, ◌∙◌}
use mathlib.Core.Bool.{Bool, true, false, cond, not}
use mathlib.Core.List.{List, [], ◌∷◌, ◌++◌}
use Prim.Native.Nat.{ℕ, ◌+◌, ◌-◌, ◌*◌, ◌/◌, ◌≤◌, ◌<◌}
use native.Mathlib.Omega.{arith}
use native.Mathlib.Decide.{dec_lt}
use lib.ListN.{length, get_or, take, set, length-append, length-set}
use lib.Seq.{sets, length-sets, length-take-le, get_or-take}
use lib.Dec.{eqb, ltb}
use mir.Syntax.{w32, w64}
use mir.Val.{Fits}
use borrow.Author.Tests.{lt-ltb, le-ltb, eq-eqb, ne_eqb}
use Rattle.std.specs.Prelude.{Result, Ok, Err}
use Rattle.lent.specs.declared.Refusal.{Refusal}
use Rattle.lent.specs.declared.Refusal.TheVariants.{OverSize, BadRecord}
use Rattle.lent.specs.Refusals.{check, first_of}
use Rattle.lent.proofs.Refusals.{first_hit, first_pass, first_end}
use Rattle.lent.proofs.Placing.{sets_before, sets_inside}
use Rattle.selector.specs.Rows.{selector_of}
use Rattle.selector.specs.Checks.{row_fits}
use Rattle.sheet.specs.Laying.{ids_held}
use Rattle.given.specs.Given.{Group, given}
use Rattle.records.specs.Rows.{empty_row}
use Rattle.gather.specs.declared.Filled.{Filled}
use Rattle.gather.specs.Opened.{rule_count, ids_given, last_of, one_more, with_step}
use Rattle.gather.specs.Making.{in_rule, in_group, step_faults}
use Rattle.gather.specs.Memory.{filled_of, open_of, Sound, Adds, kind_in}
use Rattle.gather.proofs.Filling.{steps_grown, one_grown, last, last_in, last_more, last_kept, take_more}
use Rattle.gather.proofs.Ids.{ids_empty}
use Rattle.gather.proofs.Opening.{open_group, adds_refused, adds_accepted, rules_counted, filled_rules, not_group}

-- ---- the rows after an empty one

module _ (s : List ℕ) (n : ℕ) (h : 22 * (n + 1) ≤ length s) (fit : (j : ℕ) → j < n → row_fits 8 s (22 * j) ≡ true) where
  filled : length (take (22 * n) s) ≡ 22 * n
  filled = length-take-le (22 * n) s (omega arith)

  fits_filled : (j : ℕ) → j < n → row_fits 8 (take (22 * n) s) (22 * j) ≡ true
  fits_filled j l = rw (get_or-take (22 * n) s (22 * j + 4) 0 (omega arith), get_or-take (22 * n) s (22 * j + 5) 0 (omega arith)) (fit j l)

  -- its counts are 0
  new_fits : (j : ℕ) → j < n + 1 → row_fits 8 (sets s (22 * n) (empty_row 8)) (22 * j) ≡ true
  new_fits j l = elim (dec_lt j n) [
    | yes g ↦ rw (sets_before s (22 * n) (empty_row 8) (22 * j + 4) (omega arith), sets_before s (22 * n) (empty_row 8) (22 * j + 5) (omega arith)) (fit j g)
    | no g ↦ let e : j ≡ n = omega arith in
        let a : 22 * n + 4 - 22 * n ≡ 4 = omega arith in
        let b : 22 * n + 5 - 22 * n ≡ 5 = omega arith in
        rw (
          e,
          sets_inside s (22 * n) (empty_row 8) (22 * n + 4) (omega arith) (omega arith) (omega arith),
          sets_inside s (22 * n) (empty_row 8) (22 * n + 5) (omega arith) (omega arith) (omega arith),
          a,
          b,
        )
  ]

  -- and it holds no id
  new_ids : ids_held (selector_of (take (22 * (n + 1)) (sets s (22 * n) (empty_row 8))) [] (length (take (22 * (n + 1)) (sets s (22 * n) (empty_row 8))) / 22))
      ≡ ids_held (selector_of (take (22 * n) s) [] (length (take (22 * n) s) / 22))
  new_ids =
      let z : length (take (22 * n) s ++ empty_row 8) / 22 ≡ n + 1 = omega (arith, length-append (take (22 * n) s) (empty_row 8), filled) in
      let y : length (take (22 * n) s) / 22 ≡ n = omega (arith, filled) in
      rw (steps_grown s n h, z, y) (ids_empty (take (22 * n) s) n filled fits_filled)

-- ---- what the code asks

pub steps_fit_lem : {f : Filled} {m : Group} → Sound f m → Fits w64 (f.steps + 1)
steps_fit_lem h = record { fits = omega (arith, h.steps, h.last_steps, h.rules) }

pub ties_fit : {f : Filled} {m : Group} → Sound f m → Fits w64 (f.combinators + 1)
ties_fit h = record { fits = omega (arith, h.combinators, h.steps, h.last_steps, h.rules) }

-- two words stored
pub twice_size : (r r' r'' : List ℕ) (i v j u : ℕ) → r' ≡ set r i v → r'' ≡ set r' j u → length r'' ≡ length r
twice_size r r' r'' i v j u e q = rw (q, length-set r' j u, e) (length-set r i v)

-- ---- one step more

module _ (f : Filled) (r s c p k n : List ℕ) (h : Sound f (given r s c p k n)) where
  abbrev lent : Group
  lent = given r s c p k n

  module _ (code : ℕ) (t : Result Filled Refusal) where
    pub step_no_group : (kind_in f.opening ≡ 2 → ⊥) → t ≡ Err (BadRecord 0)
        → Adds (first_of (step_faults (open_of f lent) code)) f lent (in_group (with_step code) (open_of f lent)) t lent
    step_no_group g e =
        adds_refused h (first_hit 10 true (not (in_rule (open_of f lent))) _ (rw (not_group f lent h g)) refl) e refl refl

    pub step_no_rule : kind_in f.opening ≡ 2 → f.rules ≡ 0 → t ≡ Err (BadRecord 0)
        → Adds (first_of (step_faults (open_of f lent) code)) f lent (in_group (with_step code) (open_of f lent)) t lent
    step_no_rule g z e =
        adds_refused h (first_hit 10 true (not (in_rule (open_of f lent))) _ (rw (open_group f lent g, rules_counted f lent h, z)) refl) e refl refl

  module _ (u : 1 ≤ f.rules) where
    -- the number of steps before
    abbrev before : ℕ
    before = last_of (filled_of f lent) 0

    room : 3 * f.rules ≤ length r
    room = omega (arith, h.room.rules, h.rules)

    three : 3 ≤ length (take (3 * f.rules) r)
    three = omega (arith, filled_rules f lent h)

    -- the last rule's steps counted
    module _ (r' : List ℕ) (q : r' ≡ set r (3 * f.rules - 3) (before + 1)) where
      counted : take (3 * f.rules) r' ≡ one_more 0 (take (3 * f.rules) r)
      counted =
          let z : 3 * f.rules - 3 + 0 ≡ 3 * f.rules - 3 = omega arith in
          ap (take (3 * f.rules)) q
          ∙ ap (λ i. take (3 * f.rules) (set r i (before + 1))) (sym z)
          ∙ ap (λ v. take (3 * f.rules) (set r (3 * f.rules - 3 + 0) (v + 1))) (last_in r f.rules 0 room u (omega arith))
          ∙ take_more r f.rules 0 room u (omega arith)

      counted_size : length r' ≡ 768
      counted_size = rw q (length-set r (3 * f.rules - 3) (before + 1) ∙ h.room.rules)

      counted_steps : last 0 (take (3 * f.rules) r') ≡ before + 1
      counted_steps = rw counted (last_more (take (3 * f.rules) r) 0 (omega arith) three)

      counted_ties : last 1 (take (3 * f.rules) r') ≡ last 1 (take (3 * f.rules) r)
      counted_ties = rw counted (last_kept (take (3 * f.rules) r) 0 1 (λ e. omega arith))

      -- and its combinators
      module _ (r'' : List ℕ) (q' : r'' ≡ set r' (3 * f.rules - 3 + 1) (get_or r' (3 * f.rules - 3 + 1) 0 + 1)) where
        tied : take (3 * f.rules) r'' ≡ one_more 1 (one_more 0 (take (3 * f.rules) r))
        tied = rw q' (take_more r' f.rules 1 (omega (arith, counted_size, h.rules)) u (omega arith) ∙ ap (one_more 1) counted)

        tied_size : length r'' ≡ 768
        tied_size = rw q' (length-set r' (3 * f.rules - 3 + 1) (get_or r' (3 * f.rules - 3 + 1) 0 + 1) ∙ counted_size)

        tied_steps : last 0 (take (3 * f.rules) r'') ≡ before + 1
        tied_steps = rw tied (last_kept (one_more 0 (take (3 * f.rules) r)) 1 0 (λ e. omega arith) ∙ last_more (take (3 * f.rules) r) 0 (omega arith) three)

        tied_ties : last 1 (take (3 * f.rules) r'') ≡ last 1 (take (3 * f.rules) r) + 1
        tied_ties = rw tied
            (last_more (one_more 0 (take (3 * f.rules) r)) 1 (omega arith)
            (rw (length-set (take (3 * f.rules) r) (length (take (3 * f.rules) r) - 3 + 0) (get_or (take (3 * f.rules) r) (length (take (3 * f.rules) r) - 3 + 0) 0 + 1)) three)
            ∙ ap (λ x. x + 1) (last_kept (take (3 * f.rules) r) 0 1 (λ e. omega arith)))

    -- what stays sound, whatever the combinators
    abbrev grown : ℕ → Filled
    grown ties = record { opening = f.opening; rules = f.rules; steps = f.steps + 1; combinators = ties; entries = f.entries; ids = f.ids }

    abbrev lent' : List ℕ → List ℕ → Group
    lent' r' c' = given r' (sets s (22 * f.steps) (empty_row 8)) c' p k n

    module _ (l : before < 8) where
      steps_room : 22 * (f.steps + 1) ≤ length s
      steps_room = omega (arith, h.room.steps, h.steps, h.rules)

      step_sound : (r' c' : List ℕ) (ties : ℕ) → length r' ≡ 768 → length c' ≡ 2048 → ties ≤ f.steps + 1
          → last 0 (take (3 * f.rules) r') ≡ before + 1 → last 1 (take (3 * f.rules) r') ≤ before + 1 → Sound (grown ties) (lent' r' c')
      unfolding ids_given
      step_sound r' c' ties a b d x y = record {
        room = record {
          rules = a;
          steps = length-sets s (22 * f.steps) (empty_row 8) ∙ h.room.steps;
          combinators = b;
          properties = h.room.properties;
          kinds = h.room.kinds;
          numbers = h.room.numbers;
        };
        rules = h.rules;
        steps = omega (arith, h.steps, x);
        last_steps = omega (arith, x);
        last_within = omega (arith, h.last_within, x);
        last_combinators = omega (arith, x, y);
        combinators = d;
        entries = h.entries;
        rows = new_fits s f.steps steps_room h.rows;
        ids = h.ids ∙ sym (new_ids s f.steps steps_room h.rows);
        ids_fit_lem = h.ids_fit_lem;
      }

    -- the last rule's combinators, as they are read once its steps were counted
    pub ties_read : (b : ℕ) → b ≡ before → (v : ℕ) (r' : List ℕ) → r' ≡ set r (3 * f.rules - 3) (b + 1) → v ≡ get_or r' (3 * f.rules - 3 + 1) 0 → Fits w32 (v + 1)
    ties_read b a v r' q d =
        let y : r' ≡ set r (3 * f.rules - 3) (before + 1) = q ∙ ap (λ j. set r (3 * f.rules - 3) (j + 1)) a in
        let x = last_in r' f.rules 1 (omega (arith, counted_size r' y, h.rules)) u (omega arith) in
        record { fits = omega (arith, x, counted_ties r' y, h.last_combinators, h.last_steps) }

    module _ (g : kind_in f.opening ≡ 2) (code : ℕ) (t : Result Filled Refusal) where
      step_limits : (a b : Bool) (v : ℕ) → ltb (cond (eqb before 0) 0 1) code ≡ a → ltb 8 (before + 1) ≡ b → v ≡ first_of (check 10 a ∷ check 2 b ∷ [])
          → v ≡ first_of (step_faults (open_of f lent) code)
      step_limits a b v x y q =
          rw (open_group f lent g)
          (first_pass 10 v false (not (ltb 0 (rule_count (filled_of f lent)))) _ (rw (rules_counted f lent h, lt-ltb 0 f.rules u)) refl (rw (x, y) q))

      pub step_first_code : before ≡ 0 → 0 < code → t ≡ Err (BadRecord 0)
          → Adds (first_of (step_faults (open_of f lent) code)) f lent (in_group (with_step code) (open_of f lent)) t lent
      step_first_code z l e = adds_refused h (step_limits true _ 10 (rw z (lt-ltb 0 code l)) refl (first_hit 10 true true _ refl refl)) e refl refl

      pub step_later_code : (b : ℕ) → b ≡ before → 1 ≤ b → 1 < code → t ≡ Err (BadRecord 0)
          → Adds (first_of (step_faults (open_of f lent) code)) f lent (in_group (with_step code) (open_of f lent)) t lent
      step_later_code b a z l e =
          adds_refused h (step_limits true _ 10 (rw (ne_eqb before 0 (λ x. omega arith)) (lt-ltb 1 code l)) refl (first_hit 10 true true _ refl refl)) e refl refl

      pub step_over : (b : ℕ) → b ≡ before → code ≤ 1 → 8 ≤ b → t ≡ Err OverSize
          → Adds (first_of (step_faults (open_of f lent) code)) f lent (in_group (with_step code) (open_of f lent)) t lent
      step_over b a z l e =
          adds_refused h
          (step_limits false true 2 (rw (ne_eqb before 0 (λ x. omega arith)) (le-ltb 1 code z)) (lt-ltb 8 (before + 1) (omega arith))
          (first_pass 10 2 false false _ refl refl (first_hit 2 true true _ refl refl)))
          e refl refl

      pub step_first : before ≡ 0 → code ≤ 0 → (r' s' : List ℕ) → r' ≡ set r (3 * f.rules - 3) 1 → s' ≡ sets s (22 * f.steps) (empty_row 8)
          → t ≡ Ok (grown f.combinators)
          → Adds (first_of (step_faults (open_of f lent) code)) f lent (in_group (with_step code) (open_of f lent)) t (given r' s' c p k n)
      unfolding with_step
      step_first z l r' s' q x e =
          let y : r' ≡ set r (3 * f.rules - 3) (before + 1) = q ∙ sym (ap (λ b. set r (3 * f.rules - 3) (b + 1)) z) in
          let few : before < 8 = omega arith in
          rw x
          (adds_accepted
          (step_sound few r' c f.combinators (counted_size r' y) h.room.combinators (omega (arith, h.combinators)) (counted_steps r' y) (omega (arith, counted_ties r' y, h.last_combinators)))
          (step_limits false false 0 (rw z (le-ltb 0 code l)) (le-ltb 8 (before + 1) (omega arith)) (first_pass 10 0 false false _ refl refl (first_pass 2 0 false false _ refl refl first_end)))
          (rw (open_group (grown f.combinators) (lent' r' c) g, open_group f lent g, eq-eqb before 0 z, counted r' y, steps_grown s f.steps (steps_room few)))
          e)

      pub step_later : (b : ℕ) → b ≡ before → 1 ≤ b → code ≤ 1 → b < 8 → (v : ℕ) (r' r'' s' c' : List ℕ)
          → r' ≡ set r (3 * f.rules - 3) (b + 1)
          → v ≡ get_or r' (3 * f.rules - 3 + 1) 0
          → r'' ≡ set r' (3 * f.rules - 3 + 1) (v + 1)
          → s' ≡ sets s (22 * f.steps) (empty_row 8)
          → c' ≡ set c f.combinators code
          → t ≡ Ok (grown (f.combinators + 1))
          → Adds (first_of (step_faults (open_of f lent) code)) f lent (in_group (with_step code) (open_of f lent)) t (given r'' s' c' p k n)
      unfolding with_step
      step_later b a z l few v r' r'' s' c' q d q' x w e =
          let y : r' ≡ set r (3 * f.rules - 3) (before + 1) = q ∙ ap (λ j. set r (3 * f.rules - 3) (j + 1)) a in
          let y' : r'' ≡ set r' (3 * f.rules - 3 + 1) (get_or r' (3 * f.rules - 3 + 1) 0 + 1) = q' ∙ ap (λ j. set r' (3 * f.rules - 3 + 1) (j + 1)) d in
          let less : before < 8 = omega arith in
          let ne : eqb before 0 ≡ false = ne_eqb before 0 (λ j. omega arith) in
          let place : f.combinators < length c = omega (arith, h.room.combinators, h.combinators, h.steps, h.rules) in
          rw (x, w)
          (adds_accepted
          (step_sound less r'' (set c f.combinators code) (f.combinators + 1) (tied_size r' y r'' y') (length-set c f.combinators code ∙ h.room.combinators) (omega (arith, h.combinators))
          (tied_steps r' y r'' y') (omega (arith, tied_ties r' y r'' y', h.last_combinators)))
          (step_limits false false 0 (rw ne (le-ltb 1 code l)) (le-ltb 8 (before + 1) (omega arith)) (first_pass 10 0 false false _ refl refl (first_pass 2 0 false false _ refl refl first_end)))
          (rw (
            open_group (grown (f.combinators + 1)) (lent' r'' (set c f.combinators code)) g,
            open_group f lent g,
            ne,
            tied r' y r'' y',
            steps_grown s f.steps (steps_room less),
            one_grown c f.combinators code place,
          ))
          e)

  -- the word that a step is counted in
  module _ (g : kind_in f.opening ≡ 2) (z : f.rules ≡ 0 → ⊥) (v : ℕ) (e : v ≡ get_or r (3 * f.rules - 3) 0) where
    some : 1 ≤ f.rules
    some = omega arith

    read : v ≡ last_of (filled_of f lent) 0
    read =
        let y : 3 * f.rules - 3 + 0 ≡ 3 * f.rules - 3 = omega arith in
        e ∙ ap (λ i. get_or r i 0) (sym y) ∙ sym (last_in r f.rules 0 (room some) some (omega arith))

    pub first_asked : v ≡ 0 → Sound f lent × ((kind_in f.opening ≡ 2) × (1 ≤ f.rules) × (last_of (filled_of f lent) 0 ≡ 0))
    first_asked q = (h, (g, some, sym read ∙ q))

    pub later_asked : (v ≡ 0 → ⊥) → Sound f lent × ((kind_in f.opening ≡ 2) × (1 ≤ f.rules) × (v ≡ last_of (filled_of f lent) 0) × (1 ≤ v))
    later_asked q = (h, (g, some, read, omega arith))
