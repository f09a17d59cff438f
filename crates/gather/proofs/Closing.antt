-- Laws of what a 2, 3 or 8 closes. Assumes nothing.
use mathlib.Core.Path.{◌≡◌, refl, sym, ap, ◌∙◌}
use mathlib.Core.Bool.{Bool, true, false, cond}
use mathlib.Core.List.{List, [], ◌∷◌}
use Prim.Native.Nat.{ℕ, ◌+◌, ◌≤◌, ◌<◌}
use native.Mathlib.Omega.{arith}
use native.Mathlib.Decide.{dec_lt}
use lib.ListN.{get_or, take, length-take, get_or-eq_default}
use lib.Seq.{get_or-take}
use lib.Dec.{eqb, ltb}
use borrow.Author.Tests.{ne_eqb, lt-ltb, le-ltb}
use Rattle.std.specs.Prelude.{Result, Ok, Err}
use Rattle.lent.specs.Refusals.{number_of, first_of}
use Rattle.lent.specs.declared.Refusal.{Refusal}
use Rattle.lent.proofs.Refusals.{refusal_number, first_hit, first_pass, first_end}
use Rattle.sheet.specs.Layout.{styles_in}
use Rattle.theory.specs.Lists.{total}
use Rattle.selector.specs.Rows.{selector_of}
use Rattle.sheet.specs.Shape.{sheet_shape}
use Rattle.sheet.specs.Laying.{ids_held}
use Rattle.given.specs.Given.{Group}
use Rattle.given.specs.Pushing.{style_push_verdict, pushed_style, group_verdict, pushed_group}
use Rattle.builder.specs.Answers.{Push, Pushes}
use Rattle.builder.proofs.Pushes.{style_refused, group_refused}
use Rattle.made.specs.Made.{Halves}
use Rattle.made.proofs.Pushed.{style_shaped, group_shaped}
use Rattle.gather.specs.declared.Filled.{Filled}
use Rattle.gather.specs.declared.OpenKind.{OpenKind}
use Rattle.gather.specs.declared.OpenKind.TheVariants.{Nothing, Direct, Rules}
use Rattle.gather.specs.Opened.{Open, nothing, direct, group, none, rule_count, entries_given, ids_given, close_verdict, closed}
use Rattle.gather.specs.Making.{is_direct, direct_faults, group_faults, closing_verdict}
use Rattle.gather.specs.Memory.{filled_of, open_in, open_of, kind_in, origin_in, newly, Roomy, Sound, offset_of, Closes}
use Rattle.gather.proofs.Opening.{open_nothing, open_direct, open_group, kinds, rules_counted, entries_counted}

-- ---- what is pushed

module _ (w : List ℕ) (f : Filled) (m : Group) where
  open_at : (o : OpenKind) → f.opening ≡ o → open_of f m ≡ open_in o (filled_of f m)
  unfolding open_of
  open_at o e = rw e

  pub close_nothing : f.opening ≡ Nothing → Pushes (close_verdict w (open_of f m)) w (closed w (open_of f m)) 0 w
  unfolding close_verdict closed
  close_nothing k = rw (open_at Nothing k) (record { answer = refl; memory = refl })

  module _ (s : Sound f m) (origin r : ℕ) (after : List ℕ) where
    pub close_direct : f.opening ≡ Direct origin
        → Pushes (style_push_verdict w origin (take f.entries m.properties) (take f.entries m.kinds) (take f.entries m.numbers) f.entries) w
        (pushed_style w origin (take f.entries m.properties) (take f.entries m.kinds) (take f.entries m.numbers) f.entries) r after
        → Pushes (close_verdict w (open_of f m)) w (closed w (open_of f m)) r after
    unfolding close_verdict closed
    close_direct k p = rw (open_at (Direct origin) k, entries_counted f m s) p

    pub close_rules : f.opening ≡ Rules origin
        → Pushes (group_verdict w origin (filled_of f m) f.rules) w (pushed_group w origin (filled_of f m) f.rules) r after
        → Pushes (close_verdict w (open_of f m)) w (closed w (open_of f m)) r after
    unfolding close_verdict closed
    close_rules k p = rw (open_at (Rules origin) k, rules_counted f m s) p

-- ---- an accepted one keeps the shape

halves_taken : (l : List ℕ) (n : ℕ) → Halves l → Halves (take n l)
halves_taken l n u k = elim (dec_lt k n) [
  | yes h ↦ rw (get_or-take n l k 0 h) (u k)
  | no h ↦ rw (get_or-eq_default (take n l) 0 {n = k} (omega (arith, length-take n l))) (omega arith)
]

module _ (w : List ℕ) (f : Filled) (m : Group) (s : Sound f m) (u : Halves m.properties) (z : sheet_shape w ≡ true) where
  closed_shaped : close_verdict w (open_of f m) ≡ 0 → sheet_shape (closed w (open_of f m)) ≡ true
  unfolding close_verdict closed
  closed_shaped e = kinds f.opening
      (λ k. rw (open_nothing f m k) z)
      (λ k. rw (open_direct f m k)
      (style_shaped w (origin_in f.opening) (take f.entries m.properties) (take f.entries m.kinds) (take f.entries m.numbers) (entries_given (filled_of f m))
      (halves_taken m.properties f.entries u) z (rw (open_direct f m k) at e)))
      (λ k. rw (open_group f m k)
      (group_shaped w (origin_in f.opening) (filled_of f m) (rule_count (filled_of f m)) (halves_taken m.properties f.entries u) z (rw (open_group f m k) at e)))

-- ---- what is opened

pub newly_sound : (o : OpenKind) (m : Group) → Roomy m → Sound (newly o) m
unfolding ids_given selector_of ids_held total
newly_sound o m r = record {
  room = r;
  rules = omega arith;
  steps = omega arith;
  last_steps = omega arith;
  last_within = omega arith;
  last_combinators = omega arith;
  combinators = omega arith;
  entries = omega arith;
  rows = λ k l. absurd (omega arith);
  ids = refl;
  ids_fit_lem = omega arith;
}

pub newly_nothing : (m : Group) → open_of (newly Nothing) m ≡ nothing
unfolding open_of
newly_nothing m = refl

pub newly_direct : (origin : ℕ) (m : Group) → open_of (newly (Direct origin)) m ≡ direct origin none
unfolding open_of
newly_direct origin m = refl

pub newly_rules : (origin : ℕ) (m : Group) → open_of (newly (Rules origin)) m ≡ group origin none
unfolding open_of
newly_rules origin m = refl

-- ---- what a push refuses has no offset

told_once : (b : Bool) (v : ℕ) → get_or (cond b (0 ∷ []) (v ∷ [])) 1 0 ≡ 0
told_once true v = refl
told_once false v = refl

push_offset : {v : ℕ} {before pushed after : List ℕ} {e : Refusal} → Push v before pushed (Err e) after → offset_of (Err e) ≡ 0
push_offset {v} p = ap (λ (l : List ℕ). get_or l 1 0) p.answer ∙ told_once (eqb v 0) v

close_offset : (w : List ℕ) (o : Open) (e : Refusal) → number_of e ≡ close_verdict w o → offset_of (Err e) ≡ 0
unfolding close_verdict
close_offset w nothing e q = absurd (refusal_number e q)
close_offset w (direct origin g) e q = push_offset (style_refused w origin g.properties g.kinds g.numbers (entries_given g) e q)
close_offset w (group origin g) e q = push_offset (group_refused w origin g (rule_count g) e q)

-- ---- the three ways out

module _ (w : List ℕ) (f : Filled) (m : Group) (s : Sound f m) (z : sheet_shape w ≡ true) (after : Open) (fault : ℕ) where
  -- its own fault
  pub closes_faulty : (e : Refusal) → number_of e ≡ fault → offset_of (Err e) ≡ 0 → Closes fault w f m after (Err e) w
  unfolding closing_verdict
  closes_faulty e q x =
      let n : eqb (number_of e) 0 ≡ false = ne_eqb (number_of e) 0 (refusal_number e) in
      record {
        answer = rw (← q, n);
        offset = x;
        sheet = rw (← q, n, n);
        opens = λ y. absurd (refusal_number e y);
        keeps = λ _. refl;
        sound = s;
        shape = z;
      }

  module _ (x : List ℕ) (o : 0 ≡ fault) where
    -- what it closes is refused
    pub closes_refused : (r : Result Filled Refusal) (e : Refusal) → r ≡ Err e → Pushes (close_verdict w (open_of f m)) w (closed w (open_of f m)) (number_of e) x
        → Closes fault w f m after r x
    unfolding closing_verdict
    closes_refused r e t p =
        let n : eqb (number_of e) 0 ≡ false = ne_eqb (number_of e) 0 (refusal_number e) in
        let x_is : x ≡ w = p.memory ∙ rw (← p.answer, n) in
        rw t (record {
          answer = rw (← o, ← p.answer);
          offset = close_offset w (open_of f m) e p.answer;
          sheet = rw (← o, ← p.answer, n) x_is;
          opens = λ y. absurd (refusal_number e y);
          keeps = λ _. refl;
          sound = s;
          shape = rw x_is z;
        })

    -- what it opens stands in no lent list yet
    pub closes_opened : Halves m.properties → Pushes (close_verdict w (open_of f m)) w (closed w (open_of f m)) 0 x
        → (g : OpenKind) (f' : Filled) → open_of (newly g) m ≡ after → f' ≡ newly g → Closes fault w f m after (Ok f') x
    unfolding closing_verdict
    closes_opened u p g f' a q =
        let c : close_verdict w (open_of f m) ≡ 0 = sym p.answer in
        let x_is : x ≡ closed w (open_of f m) = p.memory ∙ rw c in
        record {
          answer = rw (← o, c);
          offset = refl;
          sheet = rw (← o, c) x_is;
          opens = λ _. rw q a;
          keeps = λ y. absurd (y refl);
          sound = rw q (newly_sound g m s.room);
          shape = rw x_is (closed_shaped w f m s u z c);
        }

-- ---- their own faults

-- an open direct style, as a number
pub style_open : (k : ℕ) → k ≡ 1 → ◌≡◌ {A = ℕ} 1 (cond (eqb k 1) 1 0)
style_open k e = rw e

pub style_closed : (k : ℕ) → (k ≡ 1 → ⊥) → ◌≡◌ {A = ℕ} 0 (cond (eqb k 1) 1 0)
style_closed k h = rw (ne_eqb k 1 h)

pub style_one : (k t : ℕ) → t ≡ cond (eqb k 1) 1 0 → t ≤ 1
style_one k t e = rw e (at_most_lem (eqb k 1))
  where
    at_most_lem : (b : Bool) → cond b 1 0 ≤ 1
    at_most_lem true = omega arith
    at_most_lem false = omega arith

direct_open : (f : Filled) (m : Group) → Sound f m → is_direct (open_of f m) ≡ eqb (kind_in f.opening) 1
direct_open f m s = kinds f.opening
    (λ k. rw (open_nothing f m k, is k))
    (λ k. rw (open_direct f m k, is k))
    (λ k. rw (open_group f m k, is k))
  where
    is : {n : ℕ} → kind_in f.opening ≡ n → eqb (kind_in f.opening) 1 ≡ eqb n 1
    is e = rw e

module _ (w : List ℕ) (f : Filled) (m : Group) (s : Sound f m) (origin : ℕ) where
  pub direct_origin : 7 < origin → 6 ≡ first_of (direct_faults w (open_of f m) origin)
  direct_origin h = first_hit 6 (ltb 7 origin) _ _ refl (lt-ltb 7 origin h)

  module _ (h : origin ≤ 7) (u t : ℕ) (e : u ≡ styles_in w) (q : t ≡ cond (eqb (kind_in f.opening) 1) 1 0) where
    styles_test : ltb 64 (u + t + 1) ≡ ltb 64 (styles_in w + cond (is_direct (open_of f m)) 1 0 + 1)
    styles_test = rw (e, q, direct_open f m s)

    pub direct_over : 64 ≤ u + t → 2 ≡ first_of (direct_faults w (open_of f m) origin)
    direct_over k =
        first_pass 6 2 (ltb 7 origin) _ _ refl (le-ltb 7 origin h)
        (first_hit 2 (ltb 64 (u + t + 1)) _ _ styles_test (lt-ltb 64 (u + t + 1) (omega arith)))

    pub direct_fine : u + t < 64 → 0 ≡ first_of (direct_faults w (open_of f m) origin)
    direct_fine k =
        first_pass 6 0 (ltb 7 origin) _ _ refl (le-ltb 7 origin h)
        (first_pass 2 0 (ltb 64 (u + t + 1)) _ _ styles_test (le-ltb 64 (u + t + 1) (omega arith)) first_end)

pub group_origin : (origin : ℕ) → 7 < origin → 6 ≡ first_of (group_faults origin)
group_origin origin h = first_hit 6 (ltb 7 origin) _ _ refl (lt-ltb 7 origin h)

pub group_fine : (origin : ℕ) → origin ≤ 7 → 0 ≡ first_of (group_faults origin)
group_fine origin h = first_pass 6 0 (ltb 7 origin) _ _ refl (le-ltb 7 origin h) first_end
