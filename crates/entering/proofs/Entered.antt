-- Entering in a table in shape, by each way through the code. Assumes nothing.
use mathlib.Core.Path.{◌≡◌, refl, sym, ap, ◌∙◌}
use mathlib.Core.Bool.{Bool, true, false, cond, ◌&&◌}
use mathlib.Core.List.{List}
use Prim.Native.Nat.{ℕ, zero, suc, ◌-◌, ◌≤◌, ◌<◌}
use native.Mathlib.Omega.{arith}
use lib.ListN.{length, take}
use lib.Dec.{leb}
use borrow.Author.Tests.{le-leb, lt-leb, leb-true, ne_eqb}
use Rattle.theory.specs.Lists.{ascends}
use Rattle.theory.specs.States.{starts}
use Rattle.theory.proofs.Lists.{and_left, and_right}
use Rattle.selector.specs.Tags.{Tags}
use Rattle.selector.specs.Rows.{row_at}
use Rattle.sheet.specs.Shape.{sheet_shape}
use Rattle.table.specs.Tables.{table, selectors_of, states_in, cursors_at, state_at, child_at, linked}
use Rattle.table.specs.Shape.{root_cursors, table_shape}
use Rattle.table.specs.Entering.{cached, next_state, number_in, state_lacks_room, lacks_room, child_of, entered, kept}
use Rattle.table.proofs.Same.{same_is}
use Rattle.table.proofs.Shaped.{shaped}
use Rattle.advance.specs.Advancing.{Advanced, Room}
use Rattle.advance.proofs.Range.{room_few, room_many}
use Rattle.advance.proofs.Advanced.{advanced_state}
use Rattle.finding.specs.States.{state}
use Rattle.settle.specs.Settling.{Settles}
use Rattle.std.specs.Prelude.{Option, Some, None}
use Rattle.entering.specs.Answers.{Enters, Parents}

-- ---- what the shape brings

module _ (w h s c m tr : List ℕ) (p : ℕ) (e : (sheet_shape w ≡ true) × (table_shape w (table h s c m tr) ≡ true) × (p < states_in h)) where
  pub parents_there : Parents w s c p
  unfolding root_cursors
  parents_there =
      let fine = shaped w (table h s c m tr) e.1 in
      record { root = (same_is _ _).1 fine.root_cursors_lem; parent_up = fine.cursors_rise p e.2; root_up = fine.cursors_rise 0 fine.root }

-- ---- the two lists, as they were read: l is a, m is b

pub rises_read : (l a : List ℕ) → l ≡ a → ascends a ≡ true → ascends l ≡ true
rises_read l a e h = rw e h

pub room_read : (w : List ℕ) (x : Tags) (l m a b next listed : List ℕ) → l ≡ a → m ≡ b → Room w a b x next listed → Room w l m x next listed
room_read w x l m a b next listed e f h = rw (e, f) h

-- whether both are short
pub few_not : (l a : List ℕ) (b : Bool) → l ≡ a → 48 < length l → false ≡ (leb (length a) 48 && b)
few_not l a b e h = rw (← e, lt-leb (length l) 48 h)

pub few_last : (l a m b : List ℕ) → l ≡ a → m ≡ b → length l ≤ 48 → leb (length m) 48 ≡ (leb (length a) 48 && leb (length b) 48)
few_last l a m b e f h = rw (← e, ← f, le-leb (length l) 48 h)

pub few_both : (x y : ℕ) (b : Bool) → b ≡ (leb x 48 && leb y 48) → b ≡ true → (x ≤ 48) × (y ≤ 48)
few_both x y b e t = let both = sym e ∙ t in (leb-true x 48 (and_left (leb x 48) _ both), leb-true y 48 (and_right (leb x 48) _ both))

pub room_small : (w : List ℕ) (x : Tags) (parent top next listed : List ℕ) → (length parent ≤ 48) × (length top ≤ 48) → length next ≡ 194 → length listed ≡ 98 → Room w parent top x next listed
room_small w x parent top next listed h e f = room_few w x parent top next listed (omega (arith, h.0, h.1)) (omega (arith, h.0, h.1))

pub room_large : (w : List ℕ) (x : Tags) (parent top next listed : List ℕ) → sheet_shape w ≡ true → length next ≡ 2050 → length listed ≡ 258 → Room w parent top x next listed
room_large w x parent top next listed s e f = room_many w x parent top next listed s (omega arith) (omega arith)

-- ---- the next state settled: the lists are those that were worked out

pub settled_next : {w parent top : List ℕ} {x : Tags} {next listed next' listed' : List ℕ} {n k : ℕ} → Advanced w parent top x next listed n k next' listed'
    → (h s c m h' s' c' m' : List ℕ) (p : ℕ) (r : Option ℕ)
    → Parents w s c p
    → parent ≡ cursors_at s c p
    → top ≡ cursors_at s c 0
    → ((t : List ℕ) → Settles (table h s c m t) (state (take n next') (take k listed')) r (table h' s' c' m' t))
    → (t : List ℕ)
    → Settles (table h s c m t) (next_state w (table h s c m t) p x) r (table h' s' c' m' t)
unfolding root_cursors
settled_next {w} a h s c m h' s' c' m' p r q e f u t =
    let g = advanced_state a (state_at (table h s c m t) p) e (f ∙ (same_is (cursors_at s c 0) (starts 0 (selectors_of w))).0 q.root) in
    rw g at (u t)

-- ---- what is told where a state stands

abbrev number_told : Option ℕ → ℕ
number_told (Some k) = suc k
number_told None = 0

pub told_at : (b : Bool) (n k : ℕ) → Some k ≡ cond b None (Some n) → (b ≡ false) × (k ≡ n)
told_at true n k e = let q : suc k ≡ 0 = ap number_told e in absurd (omega arith)
told_at false n k e = let q : suc k ≡ suc n = ap number_told e in (refl, omega arith)

pub told_none : (b : Bool) (n : ℕ) → None ≡ cond b None (Some n) → b ≡ true
told_none true n e = refl
told_none false n e = let q : 0 ≡ suc n = ap number_told e in absurd (omega arith)

-- ---- the ways out

-- the link that leads there
linked_some : (l k : ℕ) → Some k ≡ linked l → l ≡ suc k
unfolding linked
linked_some zero k e = let q : suc k ≡ 0 = ap number_told e in absurd (omega arith)
linked_some (suc l) k e = let q : suc k ≡ suc l = ap number_told e in sym q

linked_none : (l : ℕ) → None ≡ linked l → l ≡ 0
unfolding linked
linked_none zero e = refl
linked_none (suc l) e = let q : 0 ≡ suc l = ap number_told e in absurd (omega arith)

module _ (w h s c m tr row : List ℕ) (p : ℕ) where
  -- a cached transition
  pub entered_cached : (k child : ℕ) → Some k ≡ linked (cached h s tr p (row_at 16 row 0)) → child ≡ child_at tr k → Enters w (table h s c m tr) p row (Some child) (table h s c m tr)
  unfolding lacks_room child_of entered
  entered_cached k child e f =
      let link = cached h s tr p (row_at 16 row 0) in
      let l : link ≡ suc k = linked_some _ k e in
      let n = ne_eqb link 0 (omega arith) in
      let m : link - 1 ≡ k = omega arith in
      record { answer = rw (n, m, f); memory = rw n }

  module _ (e : None ≡ linked (cached h s tr p (row_at 16 row 0))) (r : Option ℕ) (h' s' c' m' : List ℕ)
      (u : (t : List ℕ) → Settles (table h s c m t) (next_state w (table h s c m t) p (row_at 16 row 0)) r (table h' s' c' m' t)) where
    lacks : lacks_room w (table h s c m tr) p row ≡ state_lacks_room (table h s c m tr) (next_state w (table h s c m tr) p (row_at 16 row 0))
    unfolding lacks_room
    lacks = rw (linked_none _ e)

    -- a state held or put, and the transition kept;
    pub entered_new : (child : ℕ) → r ≡ Some child → (h'' s'' t'' : List ℕ) → ((c m : List ℕ) → table h'' s'' c m t'' ≡ kept (table h' s' c m tr) p child row)
        → Enters w (table h s c m tr) p row (Some child) (table h'' s'' c' m' t'')
    unfolding child_of entered
    entered_new child f h'' s'' t'' k =
        let t = table h s c m tr in
        let x = next_state w t p (row_at 16 row 0) in
        let (o, q) = told_at (state_lacks_room t x) (number_in t x) child (sym f ∙ (u tr).answer) in
        let held = rw o at (u tr).memory in
        record { answer = rw (lacks, o, linked_none _ e, q); memory = rw (lacks, o, linked_none _ e, ← held, ← q) (k c' m') }

    -- or none, and nothing written
    pub entered_none : r ≡ None → (out : Option ℕ) → out ≡ None → Enters w (table h s c m tr) p row out (table h' s' c' m' tr)
    entered_none f out g =
        let t = table h s c m tr in
        let x = next_state w t p (row_at 16 row 0) in
        let o = told_none (state_lacks_room t x) (number_in t x) (sym f ∙ (u tr).answer) in
        record { answer = rw (g, lacks, o); memory = rw (lacks, o) (rw o at (u tr).memory) }
