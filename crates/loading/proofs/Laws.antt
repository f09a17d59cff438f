-- What a turn leaves is what the next requires. Assumes nothing.
use mathlib.Core.Path.{◌≡◌, sym, subst}
use mathlib.Core.Bool.{Bool, false}
use mathlib.Core.List.{List}
use Prim.Native.Nat.{ℕ, ◌-◌, ◌≤◌}
use native.Mathlib.Omega.{arith}
use lib.ListN.{length, replicate}
use Rattle.sheet.specs.Layout.{SHEET-WORDS}
use Rattle.given.specs.Given.{Group}
use Rattle.gather.specs.Memory.{Roomy}
use Rattle.house.specs.declared.Making.{Making}
use Rattle.house.specs.Memory.{state_in, Before, FedSheet}
use Rattle.loading.specs.declared.held.Reading.{Reading}
use Rattle.loading.specs.Turns.{Feeds, Reads}

-- the first n bytes are n
pub feeds_first : {l : List ℕ} {n : ℕ} {m : Making} {w : List ℕ} {g : Group} {m' : Making} {w' : List ℕ} {g' : Group}
    → FedSheet l m w g m' w' g'
    → length l ≡ n
    → Feeds n m' w' g'
feeds_first f h = record { within = omega (arith, f.made.within); before = f.made.stands.before; ready = f.made.stands.ready }

pub feeds_reads : {n size : ℕ} {m : Making} {w : List ℕ} {g : Group} {over : Bool}
    → n ≤ size
    → Feeds n m w g
    → Reads size (record { have = n - m.at; making = m; over = over }) w g
feeds_reads h f = record { have = omega arith; before = f.before; ready = f.ready }

-- the sheet takes more
pub record Turning (size : ℕ) (r : Reading) (w : List ℕ) (g : Group) : Type 0 where
  pub reads : Reads size r w g
  pub awaits : state_in r.making.stage ≤ 1

pub turning_start : {size : ℕ} {r : Reading} {w : List ℕ} {g : Group}
    → (r.have ≡ 0) × ((g : Group) → Roomy g → Before r.making (replicate SHEET-WORDS 0) g)
    → (w ≡ replicate SHEET-WORDS 0) × Roomy g
    → Turning size r w g
turning_start {size} {r} {w} {g} (h, s) (z, y) =
    let b : Before r.making w g = subst (λ (v : List ℕ). Before r.making v g) (sym z) (s g y) in
    let a = b.awaits in
    record {
      reads = record { have = omega arith; before = λ _. b; ready = λ e. absurd (omega arith) };
      awaits = a;
    }

pub turning_before : {size : ℕ} {r : Reading} {w : List ℕ} {g : Group} → Turning size r w g → Before r.making w g
turning_before t = t.reads.before t.awaits

pub reads_size : {n size : ℕ} {r : Reading} {w : List ℕ} {g : Group} → n ≡ size → Reads n r w g → Reads size r w g
reads_size {r = r} {w} {g} e t = subst (λ (k : ℕ). Reads k r w g) e t

pub turning_next : {n size : ℕ} {r : Reading} {w : List ℕ} {g : Group} {done : Bool}
    → n ≡ size
    → Reads n r w g
    → (done ≡ false → state_in r.making.stage ≤ 1)
    → done ≡ false
    → Turning size r w g
turning_next e t h d = record { reads = reads_size e t; awaits = h d }
