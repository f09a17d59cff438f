-- Feeding the input in pieces of any lengths prints just what `walk_of` says. Assumes nothing.
use mathlib.Core.Path.{◌≡◌, refl, sym, ap, ◌∙◌}
use mathlib.Core.Bool.{Bool, true, false, cond}
use mathlib.Core.List.{List, [], ◌∷◌, ◌++◌, flatten, append-nil, append_assoc}
use Prim.Native.Nat.{ℕ, ◌+◌, ◌≤◌, ◌<◌}
use native.Mathlib.Omega.{arith}
use lib.ListN.{length, take, drop, length-append}
use lib.Dec.{eqb}
use Rattle.given.specs.Given.{Group}
use Rattle.table.specs.Tables.{Table}
use Rattle.records.specs.Records.{is_whole}
use Rattle.gather.specs.Memory.{open_of}
use Rattle.wording.specs.Lines.{refused_line}
use Rattle.replies.specs.Walking.{walking}
use Rattle.house.specs.declared.Making.{Making}
use Rattle.house.specs.House.{Phase, first, making, walks, built_of, ending, walk_from, walk_of}
use Rattle.house.specs.Memory.{state_in, Below, phase_of, phase_left, FedSheet}
use Rattle.house.proofs.Walk.{walk_cut, walk_end, walk_refused, walk_on}
use Rattle.house.proofs.Front.{rest_below}
use Rattle.making.proofs.Feeding.{phase_here}
use Rattle.walked.specs.Pieces.{WalkRun, SheetRun}
use Rattle.walked.specs.Pieces.WalkRun.{goes, ends, over, cut}
use Rattle.walked.specs.Pieces.SheetRun.{goes as goes_on, refused, ready, over as comes-to-end}

-- the place that was reached, and that what is left ends where it did
reach_place : (offset next at : ℕ) (input more : List ℕ) → Below offset (input ++ more) → at ≤ length input → (offset + at < 18446744073709551616 → next ≡ offset + at)
    → (offset + at < 18446744073709551616) × (next ≡ offset + at) × Below next (drop at input ++ more)
reach_place offset next at input more b h p =
    let l : offset + at < 18446744073709551616 = omega (arith, length-append input more) in
    (l, p l, rest_below offset next at input more h (p l) b)

module _ (room : ℕ) where
  -- ---- the input's end, where what is left is not whole

  cut_short : (phase : Phase) (offset : ℕ) (bytes : List ℕ) → ending phase offset ≡ refused_line 10 offset → is_whole bytes ≡ false → walk_from room phase offset bytes ≡ refused_line 10 offset
  cut_short phase offset [] e h = walk_end room phase offset ∙ e
  cut_short phase offset (b ∷ l) e h = walk_cut room phase offset (b ∷ l) h (omega arith)

  -- before kind 8 the end is always one too early
  ends_early : (m : Making) (w : List ℕ) (g : Group) → ending (phase_of m w g) m.offset ≡ refused_line 10 m.offset
  unfolding phase_of
  ends_early m w g = by (eqb (state_in m.stage) 0)
    where
      by : (b : Bool) → ending (cond b first (making w (open_of m.filled g) m.ranking m.stamp)) m.offset ≡ refused_line 10 m.offset
      by true = refl
      by false = refl

  -- ---- after kind 8

  walk_run : {w : List ℕ} {offset : ℕ} {t : Table} {items left : List ℕ} {pieces : List (List ℕ)} {printed : List ℕ} → Below offset (left ++ flatten pieces) → WalkRun room w offset t items left pieces printed
      → walk_from room (walks (walking w t items)) offset (left ++ flatten pieces) ≡ printed
  unfolding flatten
  walk_run {w} {offset} {t} {items} b (goes {left = left} piece {pieces = pieces} buffer r out t' items' {printed = printed} f e rest) =
      let q = append_assoc left piece (flatten pieces) in
      let x = f.walked in
      let l = x.lines in
      let held : take r.used out ≡ l = x.prints ∙ rw e (append-nil l) in
      let (h, p, c) = reach_place offset r.offset r.at (left ++ piece) (flatten pieces) (rw q b) x.within x.place in
      rw (← q) (walk_on room (walks (walking w t items)) offset r.at (left ++ piece) (flatten pieces) (x.reaches room h) x.within r.offset p
      ∙ ap (λ (z : List ℕ). l ++ z) (walk_run c rest)
      ∙ ap (λ (z : List ℕ). z ++ printed) (sym held))
  walk_run {w} {offset} {t} {items} b (ends {left = left} piece {pieces = pieces} buffer r out t' items' f e) =
      let q = append_assoc left piece (flatten pieces) in
      let x = f.walked in
      let l = x.lines in
      let held : take r.used out ≡ l ++ refused_line 10 r.offset = x.prints ∙ rw e in
      let (h, p, c) = reach_place offset r.offset r.at (left ++ piece) (flatten pieces) (rw q b) x.within x.place in
      rw (← q) (walk_on room (walks (walking w t items)) offset r.at (left ++ piece) (flatten pieces) (x.reaches room h) x.within r.offset p
      ∙ ap (λ (z : List ℕ). l ++ z) (walk_refused (x.refused e room) (flatten pieces))
      ∙ sym held)
  walk_run {w} b (over {offset = offset} {t = t} {items = items}) = walk_end room (walks (walking w t items)) offset
  walk_run {w} b (cut {offset = offset} {t = t} {items = items} c left h) =
      ap (λ (l : List ℕ). walk_from room (walks (walking w t items)) offset (c ∷ l)) (append-nil left) ∙ walk_cut room (walks (walking w t items)) offset (c ∷ left) h (omega arith)

  -- ---- up to it

  -- from where the records have led
  sheet_on : {input : List ℕ} {m : Making} {w : List ℕ} {g : Group} {m' : Making} {w' : List ℕ} {g' : Group} → FedSheet input m w g m' w' g' → (more : List ℕ) → Below m.offset (input ++ more)
      → (walk_from room (phase_of m w g) m.offset (input ++ more) ≡ walk_from room (phase_left room (phase_of m w g) m' w' g') m'.offset (drop m'.at input ++ more))
      × Below m'.offset (drop m'.at input ++ more)
  sheet_on {input} {m} {w} {g} {m'} f more b =
      let x = f.made in
      let (h, p, c) = reach_place m.offset m'.offset m'.at input more b x.within x.place in
      (walk_on room (phase_of m w g) m.offset m'.at input more (x.reaches room h) x.within m'.offset p, c)

  sheet_ready : (start : Phase) (m : Making) (w : List ℕ) (g : Group) → state_in m.stage ≡ 3 → phase_left room start m w g ≡ walks (built_of room w m.ranking m.stamp)
  unfolding phase_left
  sheet_ready start m w g e = rw e

  sheet_run : {m : Making} {w : List ℕ} {g : Group} {left : List ℕ} {pieces : List (List ℕ)} {printed : List ℕ} → Below m.offset (left ++ flatten pieces) → SheetRun room m w g left pieces printed
      → walk_from room (phase_of m w g) m.offset (left ++ flatten pieces) ≡ printed
  unfolding flatten
  sheet_run b (goes_on {m = m} {left = left} piece {pieces = pieces} m' w' g' f l rest) =
      let q = append_assoc left piece (flatten pieces) in
      let (p, c) = sheet_on f (flatten pieces) (rw q b) in
      rw (← q) (p ∙ rw (phase_here f.made l room) (sheet_run c rest))
  sheet_run b (refused {m = m} {left = left} piece {pieces = pieces} m' w' g' f e) =
      let q = append_assoc left piece (flatten pieces) in
      let (p, c) = sheet_on f (flatten pieces) (rw q b) in
      rw (← q) (p ∙ walk_refused (f.made.refused e room) (flatten pieces))
  sheet_run b (ready {m = m} {w = w} {g = g} {left = left} piece {pieces = pieces} m' w' g' f e rest) =
      let q = append_assoc left piece (flatten pieces) in
      let (p, c) = sheet_on f (flatten pieces) (rw q b) in
      rw (← q) (p ∙ rw (sheet_ready (phase_of m w g) m' w' g' e) (walk_run c rest))
  sheet_run b (comes-to-end {m = m} {w = w} {g = g} left h) = rw (append-nil left) (cut_short (phase_of m w g) m.offset left (ends_early m w g) h)

-- THE THEOREM: whatever the lengths of the pieces, what is printed is what `walk_of` says of the whole input
pub pieces_print : (room : ℕ) (m : Making) (w : List ℕ) (g : Group) → state_in m.stage ≡ 0 → m.offset ≡ 0 → (pieces : List (List ℕ)) (printed : List ℕ) → Below 0 (flatten pieces)
    → SheetRun room m w g [] pieces printed → printed ≡ walk_of room (flatten pieces)
unfolding phase_of
pieces_print room m w g e o pieces printed b run = sym (rw (e, o) at (sheet_run room (rw o b) run))
