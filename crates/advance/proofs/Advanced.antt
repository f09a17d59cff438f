-- The walk over the parent's and the root's cursors, by each way through the code. Assumes nothing.
use mathlib.Core.Path.{◌≡◌, refl, sym, ap, ◌∙◌}
use mathlib.Core.Bool.{Bool, true, false, ◌||◌}
use mathlib.Core.Logic.{inl, inr}
use mathlib.Core.List.{List}
use Prim.Native.Nat.{ℕ, ◌+◌, ◌-◌, ◌/◌, ◌≤◌, ◌<◌}
use native.Mathlib.Omega.{arith}
use lib.ListN.{length, get_or, take, drop, take-append-drop}
use lib.Seq.{length-take-le}
use lib.Dec.{ltb}
use borrow.Author.Tests.{lt-ltb, le-ltb, ltb-true, ltb-false}
use Rattle.theory.specs.Lists.{ascends}
use Rattle.theory.specs.States.{State, root, enter}
use Rattle.theory.proofs.Lists.{or_cases, or_first, or_second}
use Rattle.idset.specs.Buffers.{Holds}
use Rattle.idset.proofs.Buffers.{held_take}
use Rattle.selector.specs.Tags.{Tags, step_matches}
use Rattle.table.specs.Tables.{selectors_of}
use Rattle.advance.specs.Advancing.{leaves, lists, Advanced, Room}
use Rattle.advance.specs.Collecting.{Free, Puts, Walks, Least, Turned}
use Rattle.advance.proofs.Putting.{past_later}
use Rattle.advance.proofs.Cursors.{one_free}
use Rattle.advance.proofs.Walking.{least_first, least_swap, least_both, walk_start, walk_free, walk_next, walk_end}
use Rattle.advance.proofs.Range.{rises_left, rises_listed}

module _ {w : List ℕ} {x : Tags} {a b next listed : List ℕ} {i j n k c i' j' : ℕ} (s : Walks w x a b next listed i j n k) (l : Least a b i j c i' j') where
  -- ---- as `put_one` asks

  pub least_cursors : Free 2 c next n
  least_cursors = walk_free s.left c ((l.each c).1 (inl refl))

  pub least_rules : Free 1 (c / 8) listed k
  least_rules = one_free (walk_free s.listed_so c ((l.each c).1 (inl refl)))

  -- ---- a turn

  pub took : {next' listed' : List ℕ} {n' k' : ℕ} → length next' ≡ length next → length listed' ≡ length listed
      → Puts next n (leaves w x c) next' n' listed k (lists w x c) listed' k'
      → Turned w x a b next listed i j n k next' listed' i' j' n' k'
  took ln ll p = record {
    walks = record {
      up_a = s.up_a;
      up_b = s.up_b;
      in_a_lem = l.in_a_lem s.in_a_lem;
      in_b_lem = l.in_b_lem s.in_b_lem;
      left = walk_next s.left (rises_left w x) l p.cursors ln;
      listed_so = walk_next s.listed_so (rises_listed w x) l p.rules ll;
    };
    further = l.further;
    more_cursors = p.cursors.more;
    more_matched = p.rules.more;
    past_cursors = p.cursors.past;
    past_matched = p.rules.past;
  }

-- ---- which is the lowest, by each way through `lowest`

module _ (a b : List ℕ) (i j : ℕ) where
  pub parent_left : (ltb i (length a) || ltb j (length b)) ≡ true → length b ≤ j → i < length a
  parent_left t h = elim (or_cases (ltb i (length a)) (ltb j (length b)) t) [ inl e ↦ ltb-true i (length a) e | inr e ↦ absurd (omega (arith, ltb-true j (length b) e)) ]

  module _ (up : (ascends a ≡ true) × (ascends b ≡ true)) where
    pub only_parent : (ltb i (length a) || ltb j (length b)) ≡ true → length b ≤ j → Least a b i j (get_or a i 0) (i + 1) j
    only_parent t h = least_first a b i j up.0 up.1 (parent_left t h) (λ l. absurd (omega arith))

    pub only_root : j < length b → length a ≤ i → Least a b i j (get_or b j 0) i (j + 1)
    only_root h g = least_swap (least_first b a j i up.1 up.0 h (λ l. absurd (omega arith)))

    pub parent_less : i < length a → get_or a i 0 < get_or b j 0 → Least a b i j (get_or a i 0) (i + 1) j
    parent_less h l = least_first a b i j up.0 up.1 h (λ g. l)

    pub root_less : j < length b → get_or b j 0 < get_or a i 0 → Least a b i j (get_or b j 0) i (j + 1)
    root_less h l = least_swap (least_first b a j i up.1 up.0 h (λ g. l))

    pub both_same : i < length a → j < length b → get_or b j 0 ≤ get_or a i 0 → get_or a i 0 ≤ get_or b j 0 → Least a b i j (get_or a i 0) (i + 1) (j + 1)
    both_same h g l m = least_both a b i j up.0 up.1 h g (omega arith)

-- whether one is left
pub goes_parent : (i n : ℕ) (b : Bool) → i < n → true ≡ (ltb i n || b)
goes_parent i n b h = rw (lt-ltb i n h)

pub goes_root : (i n : ℕ) (b : Bool) → n ≤ i → b ≡ (ltb i n || b)
goes_root i n b h = rw (le-ltb i n h)

pub goes_true : (r b : Bool) → r ≡ b → r ≡ true → b ≡ true
goes_true r b e t = sym e ∙ t

-- ---- all turns

pub record Turns (w : List ℕ) (x : Tags) (a b next₀ listed₀ next listed : List ℕ) (i j n k : ℕ) : Type 0 where
  pub walks : Walks w x a b next listed i j n k
  pub size_next : length next ≡ length next₀
  pub size_listed : length listed ≡ length listed₀
  pub past_cursors : drop n next ≡ drop n next₀
  pub past_matched : drop k listed ≡ drop k listed₀

pub turns_start : (w : List ℕ) (x : Tags) (a b next listed : List ℕ) → (ascends a ≡ true) × (ascends b ≡ true) → Room w a b x next listed → Turns w x a b next listed next listed 0 0 0 0
turns_start w x a b next listed u r = record {
  walks = record { up_a = u.0; up_b = u.1; in_a_lem = omega arith; in_b_lem = omega arith; left = walk_start r.cursors; listed_so = walk_start r.matched };
  size_next = refl;
  size_listed = refl;
  past_cursors = refl;
  past_matched = refl;
}

holds_whole : (l out before : List ℕ) (n : ℕ) → n ≤ length out → take n out ≡ l → drop n out ≡ drop n before → Holds l before n out
holds_whole l out before n h e d = record {
  count = sym (length-take-le n out h) ∙ ap length e;
  whole = sym (take-append-drop n out) ∙ rw (e, d);
}

module _ {w : List ℕ} {x : Tags} {a b next₀ listed₀ next listed : List ℕ} {i j n k : ℕ} (s : Turns w x a b next₀ listed₀ next listed i j n k) where
  pub turns_next : {next' listed' : List ℕ} {i' j' n' k' : ℕ} → length next' ≡ length next → length listed' ≡ length listed → Turned w x a b next listed i j n k next' listed' i' j' n' k' → Turns w x a b next₀ listed₀ next' listed' i' j' n' k'
  turns_next {next'} {listed'} {i'} {j'} {n'} {k'} ln ll t = record {
    walks = t.walks;
    size_next = ln ∙ s.size_next;
    size_listed = ll ∙ s.size_listed;
    past_cursors = t.past_cursors ∙ past_later n n' next next₀ t.more_cursors s.past_cursors;
    past_matched = t.past_matched ∙ past_later k k' listed listed₀ t.more_matched s.past_matched;
  }

  pub turns_less : {next' listed' : List ℕ} {i' j' n' k' : ℕ} → Turned w x a b next listed i j n k next' listed' i' j' n' k' → length a + length b - (i' + j') < length a + length b - (i + j)
  turns_less t = omega (arith, t.further, t.walks.in_a_lem, t.walks.in_b_lem)

  pub turns_end : (r : Bool) → r ≡ (ltb i (length a) || ltb j (length b)) → r ≡ false → Advanced w a b x next₀ listed₀ n k next listed
  turns_end r e f =
      let none = sym e ∙ f in
      let ha = ltb-false i (length a) (or_first (ltb i (length a)) (ltb j (length b)) none) in
      let hb = ltb-false j (length b) (or_second (ltb i (length a)) (ltb j (length b)) none) in
      record {
        cursors_held_lem = holds_whole _ next next₀ n s.walks.left.within (walk_end s.walks.left ha hb) s.past_cursors;
        matched_held_lem = holds_whole _ listed listed₀ k s.walks.listed_so.within (walk_end s.walks.listed_so ha hb) s.past_matched;
      }

-- ---- for callers

module _ {w parent top : List ℕ} {x : Tags} {next listed : List ℕ} {cursors matched : ℕ} {next' listed' : List ℕ}
    (a : Advanced w parent top x next listed cursors matched next' listed') where
  -- both lists together are the state entered under s
  pub advanced_state : (s : State) → parent ≡ s.cursors → top ≡ (root (selectors_of w)).cursors → ◌≡◌ {A = State} (record { cursors = take cursors next'; matched = take matched listed' }) (enter step_matches (selectors_of w) s x)
  unfolding enter
  advanced_state s e f = rw (← e, ← f, held_take a.cursors_held_lem, held_take a.matched_held_lem)
