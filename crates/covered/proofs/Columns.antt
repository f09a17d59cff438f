-- Lists end to end in a pool, one list more, and which stay: of one column of a table's states. Assumes nothing.
use mathlib.Core.Path.{◌≡◌, refl, sym, ap, ◌∙◌}
use mathlib.Core.List.{List, ◌++◌, append_assoc}
use mathlib.Core.Logic.{inl, inr}
use Prim.Native.Nat.{ℕ, zero, suc, ◌+◌, ◌-◌, ◌≤◌, ◌<◌}
use native.Mathlib.Numerals.{add-one}
use native.Mathlib.Omega.{arith}
use native.Mathlib.Decide.{dec_lt}
use lib.ListN.{length, get_or, take, drop, length-take, length-drop}
use lib.Seq.{sets, sets-eq, length-sets, take_at, take-take, drop_at, length-take-le, get_or-take, get_or-drop}
use Rattle.theory.specs.Lists.{◌∈◌}
use Rattle.lent.specs.Pool.{start_of, list_at}
use Rattle.lent.proofs.Pool.{Rising, list_kept}
use Rattle.sheet.proofs.Shaped.{end_within}
use Rattle.laid.proofs.Reading.{get_or_in}
use Rattle.covered.proofs.Known.{below}

-- n lists lie end to end in the first `total` numbers of a pool
pub record EndToEnd (ends : ℕ → ℕ) (n total : ℕ) (pool : List ℕ) : Type 0 where
  pub rise : Rising n ends
  pub last : start_of ends n ≡ total
  pub room : total ≤ length pool

-- the first n lists stay where they are, and so do the first `total` numbers
pub record Stays (n total : ℕ) (ends ends' : ℕ → ℕ) (pool pool' : List ℕ) : Type 0 where
  pub same : (k : ℕ) → k < n → ends' k ≡ ends k
  pub numbers : take total pool' ≡ take total pool

-- ---- none, and each

pub none_there : (ends : ℕ → ℕ) (pool : List ℕ) → EndToEnd ends 0 0 pool
unfolding start_of
none_there ends pool = record { rise = λ k h. absurd (omega arith); last = refl; room = omega arith }

module _ (ends : ℕ → ℕ) (pool : List ℕ) where
  -- each number of the pool is of a list
  in_list : (n i : ℕ) → i < start_of ends n → i < length pool → (k : ℕ) × (k < n) × (get_or pool i 0 ∈ list_at ends pool k)
  unfolding start_of list_at
  in_list zero i h l = absurd (omega arith)
  in_list (suc n) i h l = elim (dec_lt i (start_of ends n)) [
    | yes m ↦ let (k, b, p) = in_list n i m l in (k, omega arith, p)
    | no m ↦ (n, omega arith, here (start_of ends n) (omega arith))
  ]
    where
      here : (a : ℕ) → a ≤ i → get_or pool i 0 ∈ take (ends n - a) (drop a pool)
      here a g =
          let z : a + (i - a) ≡ i = omega arith in
          let e : get_or (take (ends n - a) (drop a pool)) (i - a) 0 ≡ get_or pool i 0 = get_or-take (ends n - a) (drop a pool) (i - a) 0 (omega arith) ∙ get_or-drop a pool (i - a) 0 ∙ rw z in
          rw (sym e) (get_or_in (take (ends n - a) (drop a pool)) (i - a) 0 (simp (length-take, length-drop) (omega arith)))

  pub some_list : {n total : ℕ} → EndToEnd ends n total pool → (i : ℕ) → i < total → (k : ℕ) × (k < n) × (get_or pool i 0 ∈ list_at ends pool k)
  some_list {n} e i h = in_list n i (omega (arith, e.last)) (omega (arith, e.room))

-- ---- the same lists

pub stays_none : (n total : ℕ) (ends : ℕ → ℕ) (pool : List ℕ) → Stays n total ends ends pool pool
stays_none n total ends pool = record { same = λ k h. refl; numbers = refl }

pub stays_then : {n n' total total' : ℕ} {ends ends' ends'' : ℕ → ℕ} {pool pool' pool'' : List ℕ}
    → n ≤ n'
    → total ≤ total'
    → Stays n total ends ends' pool pool'
    → Stays n' total' ends' ends'' pool' pool''
    → Stays n total ends ends'' pool pool''
stays_then {total = total} {total' = total'} {pool' = pool'} {pool'' = pool''} h g a b = record {
  same = λ k l. b.same k (omega arith) ∙ a.same k l;
  numbers = sym (take-take total total' pool'' g) ∙ ap (take total) b.numbers ∙ take-take total total' pool' g ∙ a.numbers;
}

module _ {n total : ℕ} {ends ends' : ℕ → ℕ} {pool pool' : List ℕ} (s : Stays n total ends ends' pool pool') where
  pub stays_start : (k : ℕ) → k ≤ n → start_of ends' k ≡ start_of ends k
  unfolding start_of
  stays_start zero h = refl
  stays_start (suc k) h = s.same k h

  module _ (e : EndToEnd ends n total pool) (k : ℕ) (h : k < n) where
    numbers_below : take (ends k) pool' ≡ take (ends k) pool
    numbers_below =
        let g = end_within ends n total e.rise e.last k h in
        sym (take-take (ends k) total pool' g) ∙ ap (take (ends k)) s.numbers ∙ take-take (ends k) total pool g

    pub stays_list : list_at ends' pool' k ≡ list_at ends pool k
    stays_list = list_kept ends ends' pool pool' k (stays_start k (omega arith)) (s.same k h) numbers_below

    -- by the ends before, too
    pub stays_part : list_at ends pool' k ≡ list_at ends pool k
    stays_part = list_kept ends ends pool pool' k refl refl numbers_below

  -- where no list is added
  pub stays_end_to_end : EndToEnd ends n total pool → length pool' ≡ length pool → EndToEnd ends' n total pool'
  stays_end_to_end e f = record {
    rise = λ k h. rw (stays_start k (omega arith), s.same k h) (e.rise k h);
    last = stays_start n (omega arith) ∙ e.last;
    room = rw f e.room;
  }

-- ---- one list more

module _ {ends ends' : ℕ → ℕ} {n total : ℕ} {pool : List ℕ} (list : List ℕ) (e : EndToEnd ends n total pool) (same : (k : ℕ) → k < n → ends' k ≡ ends k)
    (new : ends' n ≡ total + length list) (room : total + length list ≤ length pool) where
  whole : sets pool total list ≡ take total pool ++ (list ++ drop (total + length list) pool)
  whole = sets-eq list pool total room ∙ append_assoc (take total pool) list (drop (total + length list) pool)

  pub more_stays : Stays n total ends ends' pool (sets pool total list)
  more_stays = record { same = same; numbers = rw whole (take_at (take total pool) (list ++ drop (total + length list) pool) total (length-take-le total pool e.room)) }

  pub more_end_to_end : EndToEnd ends' (n + 1) (total + length list) (sets pool total list)
  unfolding start_of
  more_end_to_end = record {
    rise = λ k h. elim (below k n h) [
      | inl l ↦ rw (stays_start more_stays k (omega arith), same k l) (e.rise k l)
      | inr q ↦ rw (q, new, stays_start more_stays n (omega arith), e.last) (omega arith)
    ];
    last = rw (add-one n) new;
    room = rw length-sets room;
  }

  pub more_list : list_at ends' (sets pool total list) n ≡ list
  unfolding list_at
  more_list =
      let z : total + length list - total ≡ length list = omega arith in
      rw (new, stays_start more_stays n (omega arith), e.last, z, whole, drop_at (take total pool) (list ++ drop (total + length list) pool) total (length-take-le total pool e.room))
      (take_at list (drop (total + length list) pool) (length list) refl)
