-- Runs of the feeding calls over pieces of input, by the calls' contracts alone. Assumes nothing.
use Rattle.std.specs.Prelude.{◌≡◌, true, false, List, [], ◌∷◌, ◌++◌, ℕ, ◌≤◌, drop, take}
use Rattle.given.specs.Given.{Group}
use Rattle.table.specs.Tables.{Table}
use Rattle.table.specs.Entering.{built}
use Rattle.records.specs.Records.{is_whole}
use Rattle.records.specs.Rows.{empty_row}
use Rattle.wording.specs.Lines.{refused_line}
use Rattle.house.specs.declared.Making.{Making}
use Rattle.house.specs.declared.Walked.{Walked}
use Rattle.house.specs.House.{lent_table}
use Rattle.house.specs.Memory.{state_in, verdict_in, FedSheet, FedWalk}

module _ (room : ℕ) where
  -- What is printed from here on: `left` is what the last call left of its piece, and each piece that comes is put after it. A call that ends neither the
  -- program nor its part leads on; at the input's end, what is left is no whole record
  pub data WalkRun (w : List ℕ) : ℕ → Table → List ℕ → List ℕ → List (List ℕ) → List ℕ → Type 0 where
    goes : {offset : ℕ} {t : Table} {items left : List ℕ} (piece : List ℕ) {pieces : List (List ℕ)} (buffer : List ℕ) (r : Walked) (out : List ℕ) (t' : Table) (items' : List ℕ) {printed : List ℕ}
        → FedWalk (left ++ piece) offset w t items buffer r out t' items'
        → r.ends ≡ false
        → WalkRun w r.offset t' items' (drop r.at (left ++ piece)) pieces printed
        → WalkRun w offset t items left (piece ∷ pieces) (take r.used out ++ printed)
    ends : {offset : ℕ} {t : Table} {items left : List ℕ} (piece : List ℕ) {pieces : List (List ℕ)} (buffer : List ℕ) (r : Walked) (out : List ℕ) (t' : Table) (items' : List ℕ)
        → FedWalk (left ++ piece) offset w t items buffer r out t' items'
        → r.ends ≡ true
        → WalkRun w offset t items left (piece ∷ pieces) (take r.used out)
    over : {offset : ℕ} {t : Table} {items : List ℕ} → WalkRun w offset t items [] [] []
    cut : {offset : ℕ} {t : Table} {items : List ℕ} (b : ℕ) (left : List ℕ) → is_whole (b ∷ left) ≡ false → WalkRun w offset t items (b ∷ left) [] (refused_line 10 offset)

  pub data SheetRun : Making → List ℕ → Group → List ℕ → List (List ℕ) → List ℕ → Type 0 where
    goes : {m : Making} {w : List ℕ} {g : Group} {left : List ℕ} (piece : List ℕ) {pieces : List (List ℕ)} (m' : Making) (w' : List ℕ) (g' : Group) {printed : List ℕ}
        → FedSheet (left ++ piece) m w g m' w' g'
        → state_in m'.stage ≤ 1
        → SheetRun m' w' g' (drop m'.at (left ++ piece)) pieces printed
        → SheetRun m w g left (piece ∷ pieces) printed
    refused : {m : Making} {w : List ℕ} {g : Group} {left : List ℕ} (piece : List ℕ) {pieces : List (List ℕ)} (m' : Making) (w' : List ℕ) (g' : Group)
        → FedSheet (left ++ piece) m w g m' w' g'
        → state_in m'.stage ≡ 2
        → SheetRun m w g left (piece ∷ pieces) (refused_line (verdict_in m'.stage) m'.offset)
    ready : {m : Making} {w : List ℕ} {g : Group} {left : List ℕ} (piece : List ℕ) {pieces : List (List ℕ)} (m' : Making) (w' : List ℕ) (g' : Group) {printed : List ℕ}
        → FedSheet (left ++ piece) m w g m' w' g'
        → state_in m'.stage ≡ 3
        → WalkRun w' m'.offset (built w' m'.stamp m'.ranking (lent_table room)) (empty_row 16) (drop m'.at (left ++ piece)) pieces printed
        → SheetRun m w g left (piece ∷ pieces) printed
    over : {m : Making} {w : List ℕ} {g : Group} (left : List ℕ) → is_whole left ≡ false → SheetRun m w g left [] (refused_line 10 m.offset)
