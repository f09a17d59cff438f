-- Laws of an entry that is added to the direct style or to the last rule: one for each way through the code. Assumes nothing.
use mathlib.Core.Path.{◌≡◌, refl, sym, ap, ◌∙◌}
use mathlib.Core.Bool.{Bool, true, false, cond, not, ◌&&◌, ◌||◌, true≢false}
use mathlib.Core.List.{List, [], ◌∷◌, ◌++◌}
use Prim.Native.Nat.{ℕ, ◌+◌, ◌-◌, ◌*◌, ◌≤◌, ◌<◌}
use native.Mathlib.Omega.{arith}
use lib.ListN.{length, get_or, take, set, length-set}
use lib.Dec.{eqb, ltb}
use mir.Syntax.{w32, w64}
use mir.Val.{Fits}
use borrow.Author.Tests.{lt-ltb, le-ltb, ltb-true, ltb-false, ne_eqb, not-false}
use Rattle.std.specs.Prelude.{Result, Ok, Err}
use Rattle.lent.specs.declared.Refusal.{Refusal}
use Rattle.lent.specs.declared.Refusal.TheVariants.{OverSize, BadRecord}
use Rattle.lent.specs.Refusals.{check, first_of}
use Rattle.lent.proofs.Refusals.{first_hit, first_pass, first_end, first_clear}
use Rattle.sheet.specs.Shape.{sheet_shape}
use Rattle.sheet.proofs.Shaped.{shaped}
use Rattle.given.specs.Given.{Group, given}
use Rattle.given.specs.Pushing.{all_entries_in}
use Rattle.gather.specs.declared.Filled.{Filled}
use Rattle.gather.specs.Opened.{ids_given, one_more, entries_given, with_entry}
use Rattle.gather.specs.Making.{is_direct, group_of, in_rule, last_entries, entry_faults}
use Rattle.gather.specs.Memory.{open_of, Sound, Adds, kind_in}
use Rattle.gather.proofs.Filling.{one_grown, last, last_in, last_kept, take_more}
use Rattle.gather.proofs.Opening.{open_nothing, open_direct, open_group, kinds, adds_refused, adds_accepted, rules_counted, entries_counted}

-- ---- the small functions

module _ (k n : ℕ) where
  pub style_direct : k ≡ 1 → true ≡ (eqb k 1 || (eqb k 2 && ltb 0 n))
  style_direct e = rw e

  pub style_none : (k ≡ 1 → ⊥) → (k ≡ 2 → ⊥) → false ≡ (eqb k 1 || (eqb k 2 && ltb 0 n))
  style_none e g = rw (ne_eqb k 1 e, ne_eqb k 2 g)

  pub style_rule : k ≡ 2 → ltb 0 n ≡ (eqb k 1 || (eqb k 2 && ltb 0 n))
  style_rule e = rw e

pub entries_direct : (k a b : ℕ) → k ≡ 1 → a ≡ cond (eqb k 1) a b
entries_direct k a b e = rw e

pub entries_rule : (k a b v u : ℕ) → (k ≡ 1 → ⊥) → v ≡ b → u ≡ v → u ≡ cond (eqb k 1) a b
entries_rule k a b v u g e q = rw (ne_eqb k 1 g) (q ∙ e)

pub count_fits : (v x : ℕ) → v ≡ x → x ≤ 4096 → Fits w32 (v + 1)
count_fits v x e h = record { fits = omega arith }

pub count_none : (k : ℕ) (x r : List ℕ) → (k ≡ 2 → ⊥) → r ≡ cond (eqb k 2) x r
count_none k x r g = rw (ne_eqb k 2 g)

pub count_one : (k : ℕ) (r r' : List ℕ) (i v : ℕ) → k ≡ 2 → v ≡ get_or r i 0 → r' ≡ set r i (v + 1) → r' ≡ cond (eqb k 2) (set r i (get_or r i 0 + 1)) r
count_one k r r' i v g e q = rw g (q ∙ ap (λ x. set r i (x + 1)) e)

-- ---- an entry

module _ (w : List ℕ) (f : Filled) (r s c p k n : List ℕ) (h : Sound f (given r s c p k n)) (property kind number : ℕ) where
  abbrev lent : Group
  lent = given r s c p k n

  -- ---- whether a style is open, and how many entries it has

  abbrev styled : Bool
  styled = eqb (kind_in f.opening) 1 || (eqb (kind_in f.opening) 2 && ltb 0 f.rules)

  abbrev counted : ℕ
  counted = cond (eqb (kind_in f.opening) 1) f.entries (get_or r (3 * f.rules - 3 + 2) 0)

  styled_is : styled ≡ (is_direct (open_of f lent) || in_rule (open_of f lent))
  styled_is =
      kinds f.opening
      (λ e. rw (open_nothing f lent e, e))
      (λ e. rw (open_direct f lent e, e))
      (λ e. rw (open_group f lent e, e, rules_counted f lent h))

  styles : {B : Type 0} → styled ≡ true → (kind_in f.opening ≡ 1 → B) → (kind_in f.opening ≡ 2 → 1 ≤ f.rules → B) → B
  styles x a b =
      kinds f.opening (λ e. absurd (true≢false (sym (rw e at x)))) a (λ e. b e (ltb-true 0 f.rules (rw e at x)))

  last_is : kind_in f.opening ≡ 2 → 1 ≤ f.rules → last_entries (open_of f lent) ≡ get_or r (3 * f.rules - 3 + 2) 0
  last_is e u = rw (open_group f lent e) (last_in r f.rules 2 (omega (arith, h.room.rules, h.rules)) u (omega arith))

  entries_is : styled ≡ true → last_entries (open_of f lent) ≡ counted
  entries_is x = styles x (λ e. rw (open_direct f lent e, e) (entries_counted f lent h)) (λ e u. last_is e u ∙ rw e)

  sum_is : styled ≡ true → entries_given (group_of (open_of f lent)) ≡ f.entries
  sum_is x = styles x (λ e. rw (open_direct f lent e) (entries_counted f lent h)) (λ e u. rw (open_group f lent e) (entries_counted f lent h))

  -- ---- refused

  module _ (b : Bool) (q : b ≡ styled) where
    module _ (t : Result Filled Refusal) where
      pub entry_outside : b ≡ false → t ≡ Err (BadRecord 0)
          → Adds (first_of (entry_faults w (open_of f lent) kind)) f lent (with_entry property kind number (open_of f lent)) t lent
      entry_outside x e =
          adds_refused h (first_hit 10 true (not (is_direct (open_of f lent) || in_rule (open_of f lent))) _ (rw (sym styled_is, sym q, x)) refl) e refl refl

    module _ (y : b ≡ true) where
      x : styled ≡ true
      x = sym q ∙ y

      limits : (a d g : Bool) (v : ℕ) → ltb 3 kind ≡ a → ltb 32 (counted + 1) ≡ d → ltb 4096 (all_entries_in w + f.entries + 1) ≡ g
          → v ≡ first_of (check 10 a ∷ check 2 d ∷ check 2 g ∷ [])
          → v ≡ first_of (entry_faults w (open_of f lent) kind)
      limits a d g v i j l o =
          first_pass 10 v false (not (is_direct (open_of f lent) || in_rule (open_of f lent))) _ (rw (sym styled_is, x)) refl (rw (entries_is x, sum_is x, i, j, l) o)

      module _ (t : Result Filled Refusal) where
        pub entry_kind : 3 < kind → t ≡ Err (BadRecord 0)
            → Adds (first_of (entry_faults w (open_of f lent) kind)) f lent (with_entry property kind number (open_of f lent)) t lent
        entry_kind l e = adds_refused h (limits true _ _ 10 (lt-ltb 3 kind l) refl refl (first_hit 10 true true _ refl refl)) e refl refl

      module _ (l : kind ≤ 3) (m : ℕ) (o : m ≡ counted) where
        pub entry_over : (t : Result Filled Refusal) → 32 ≤ m → t ≡ Err OverSize
            → Adds (first_of (entry_faults w (open_of f lent) kind)) f lent (with_entry property kind number (open_of f lent)) t lent
        entry_over t g e =
            adds_refused h
            (limits false true _ 2 (le-ltb 3 kind l) (lt-ltb 32 (counted + 1) (omega arith)) refl (first_pass 10 2 false false _ refl refl (first_hit 2 true true _ refl refl)))
            e refl refl

        module _ (g : m < 32) (a : ℕ) (z : a ≡ all_entries_in w) where
          pub entry_sheet_over : (t : Result Filled Refusal) → 4096 ≤ a + f.entries → t ≡ Err OverSize
              → Adds (first_of (entry_faults w (open_of f lent) kind)) f lent (with_entry property kind number (open_of f lent)) t lent
          entry_sheet_over t d e =
              adds_refused h
              (limits false false true 2 (le-ltb 3 kind l) (le-ltb 32 (counted + 1) (omega arith)) (lt-ltb 4096 (all_entries_in w + f.entries + 1) (omega arith))
              (first_pass 10 2 false false _ refl refl (first_pass 2 2 false false _ refl refl (first_hit 2 true true _ refl refl))))
              e refl refl

          entry_fits : a + f.entries < 4096 → first_of (entry_faults w (open_of f lent) kind) ≡ 0
          entry_fits d =
              sym
              (limits false false false 0 (le-ltb 3 kind l) (le-ltb 32 (counted + 1) (omega arith)) (le-ltb 4096 (all_entries_in w + f.entries + 1) (omega arith))
              (first_pass 10 0 false false _ refl refl (first_pass 2 0 false false _ refl refl (first_pass 2 0 false false _ refl refl first_end))))

          pub entry_asked : property < 65536 → a + f.entries < 4096
              → Sound f lent × (((property < 65536) × (kind ≤ 3) × (f.entries < 4096)) × (first_of (entry_faults w (open_of f lent) kind) ≡ 0))
          entry_asked i d = (h, ((i, l, omega arith), entry_fits d))

  pub style_asked : (b : Bool) → b ≡ styled → b ≡ true → (f.rules ≤ 256) × ((kind_in f.opening ≡ 1 → ⊥) → 1 ≤ f.rules)
  style_asked b q y = (h.rules, λ d. styles (sym q ∙ y) (λ e. absurd (d e)) (λ e u. u))

  pub sum_fits : sheet_shape w ≡ true → (a : ℕ) → a ≡ all_entries_in w → Fits w64 (a + f.entries)
  sum_fits e a z = let t = shaped w e in record { fits = omega (arith, t.entries, t.style_entries_lem, h.entries) }

  -- ---- accepted

  module _ (z : first_of (entry_faults w (open_of f lent) kind) ≡ 0) where
    passed : styled ≡ true
    passed = styled_is ∙ not-false _ (first_clear 10 (not (is_direct (open_of f lent) || in_rule (open_of f lent))) _ (omega arith) z).0

    under : last_entries (open_of f lent) + 1 ≤ 32
    under =
        let y = (first_clear 10 (not (is_direct (open_of f lent) || in_rule (open_of f lent))) _ (omega arith) z).1 in
        let x = (first_clear 10 (ltb 3 kind) _ (omega arith) y).1 in
        ltb-false 32 (last_entries (open_of f lent) + 1) (first_clear 2 (ltb 32 (last_entries (open_of f lent) + 1)) _ (omega arith) x).0

    pub count_asked : (f.rules ≤ 256) × (kind_in f.opening ≡ 2 → (1 ≤ f.rules) × (get_or r (3 * f.rules - 3 + 2) 0 ≤ 4096))
    count_asked = (h.rules, λ e. styles passed (λ d. absurd (omega arith)) (λ d u. (u, omega (arith, under, last_is e u))))

    module _ (l : f.entries < 4096) where
      abbrev grown : Filled
      grown = record { opening = f.opening; rules = f.rules; steps = f.steps; combinators = f.combinators; entries = f.entries + 1; ids = f.ids }

      abbrev lent' : List ℕ → Group
      lent' r' = given r' s c (set p f.entries property) (set k f.entries kind) (set n f.entries number)

      entry_sound : (r' : List ℕ) → length r' ≡ 768 → last 0 (take (3 * f.rules) r') ≡ last 0 (take (3 * f.rules) r)
          → last 1 (take (3 * f.rules) r') ≡ last 1 (take (3 * f.rules) r) → Sound grown (lent' r')
      unfolding ids_given
      entry_sound r' a x y = record {
        room = record {
          rules = a;
          steps = h.room.steps;
          combinators = h.room.combinators;
          properties = length-set p f.entries property ∙ h.room.properties;
          kinds = length-set k f.entries kind ∙ h.room.kinds;
          numbers = length-set n f.entries number ∙ h.room.numbers;
        };
        rules = h.rules;
        steps = rw x h.steps;
        last_steps = rw x h.last_steps;
        last_within = rw x h.last_within;
        last_combinators = rw (x, y) h.last_combinators;
        combinators = h.combinators;
        entries = omega arith;
        rows = h.rows;
        ids = h.ids;
        ids_fit_lem = h.ids_fit_lem;
      }

      one_property : take (f.entries + 1) (set p f.entries property) ≡ take f.entries p ++ property ∷ []
      one_property = one_grown p f.entries property (omega (arith, h.room.properties))

      one_kind : take (f.entries + 1) (set k f.entries kind) ≡ take f.entries k ++ kind ∷ []
      one_kind = one_grown k f.entries kind (omega (arith, h.room.kinds))

      one_number : take (f.entries + 1) (set n f.entries number) ≡ take f.entries n ++ number ∷ []
      one_number = one_grown n f.entries number (omega (arith, h.room.numbers))

      module _ (t : Result Filled Refusal) (q : t ≡ Ok grown) where
        entry_direct : kind_in f.opening ≡ 1 → Adds (first_of (entry_faults w (open_of f lent) kind)) f lent (with_entry property kind number (open_of f lent)) t (lent' r)
        unfolding with_entry
        entry_direct e =
            adds_accepted (entry_sound r h.room.rules refl refl) (sym z)
            (rw (open_direct grown (lent' r) e, open_direct f lent e, one_property, one_kind, one_number)) q

        entry_rule : kind_in f.opening ≡ 2 → 1 ≤ f.rules
            → Adds (first_of (entry_faults w (open_of f lent) kind)) f lent (with_entry property kind number (open_of f lent)) t
            (lent' (set r (3 * f.rules - 3 + 2) (get_or r (3 * f.rules - 3 + 2) 0 + 1)))
        unfolding with_entry
        entry_rule e u =
            let r' = set r (3 * f.rules - 3 + 2) (get_or r (3 * f.rules - 3 + 2) 0 + 1) in
            let a : take (3 * f.rules) r' ≡ one_more 2 (take (3 * f.rules) r) = take_more r f.rules 2 (omega (arith, h.room.rules, h.rules)) u (omega arith) in
            adds_accepted
            (entry_sound r' (length-set r (3 * f.rules - 3 + 2) (get_or r (3 * f.rules - 3 + 2) 0 + 1) ∙ h.room.rules)
            (rw a (last_kept (take (3 * f.rules) r) 2 0 (λ o. omega arith)))
            (rw a (last_kept (take (3 * f.rules) r) 2 1 (λ o. omega arith))))
            (sym z)
            (rw (open_group grown (lent' r') e, open_group f lent e, a, one_property, one_kind, one_number)) q

        pub entry_added : (r' k' n' : List ℕ) (v : ℕ)
            → r' ≡ cond (eqb (kind_in f.opening) 2) (set r (3 * f.rules - 3 + 2) (get_or r (3 * f.rules - 3 + 2) 0 + 1)) r
            → v ≡ property
            → k' ≡ set k f.entries kind
            → n' ≡ set n f.entries number
            → Adds (first_of (entry_faults w (open_of f lent) kind)) f lent (with_entry property kind number (open_of f lent)) t (given r' s c (set p f.entries v) k' n')
        entry_added r' k' n' v a x y o =
            styles passed
            (λ e. let i : r' ≡ r = a ∙ rw e in rw (i, x, y, o) (entry_direct e))
            (λ e u. let i : r' ≡ set r (3 * f.rules - 3 + 2) (get_or r (3 * f.rules - 3 + 2) 0 + 1) = a ∙ rw e in rw (i, x, y, o) (entry_rule e u))
