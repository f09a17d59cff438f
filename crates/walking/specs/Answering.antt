-- What is at the front of the rest of a piece, after kind 8, and one step over lent memory. For contracts within and cores alone. Assumes nothing.
use Rattle.std.specs.Prelude.{◌≡◌, true, false, List, ℕ, ◌+◌, ◌≤◌, ◌<◌, length, drop}
use Rattle.table.specs.Tables.{Table}
use Rattle.records.specs.Records.{known, kind_of, size_of, is_whole, record_in}
use Rattle.wording.specs.Lines.{refused_line, Said}
use Rattle.replies.specs.declared.Replied.{Replied}
use Rattle.replies.specs.Walking.{walking}
use Rattle.replies.specs.Memory.{Replies}
use Rattle.house.specs.declared.Walked.{Walked}
use Rattle.house.specs.declared.Found.{Found}
use Rattle.house.specs.declared.Found.TheVariants.{Whole, Short, Unknown}
use Rattle.house.specs.Memory.{Cut}

-- after a reply: the place is that after the record, unless it ends the program
pub record PastReply (v : Walked) (size : ℕ) (a : Replied) (r : Walked) : Type 0 where
  pub told : (r.used ≡ a.used) × (r.ends ≡ a.ends)
  pub stays : a.ends ≡ true → (r.at ≡ v.at) × (r.offset ≡ v.offset)
  pub goes : a.ends ≡ false → r.at ≡ v.at + size
  pub reach : a.ends ≡ false → v.offset + size < 18446744073709551616 → r.offset ≡ v.offset + size

-- the reply, and the place
pub record Answers (bytes w : List ℕ) (t : Table) (items : List ℕ) (v : Walked) (out : List ℕ) (r : Walked) (out' : List ℕ) (t' : Table) (items' : List ℕ) : Type 0 where
  pub replies : Replies (walking w t items) v.offset (record_in bytes) out v.used (record { used = r.used; ends = r.ends }) out' t' items'
  pub stays : r.ends ≡ true → (r.at ≡ v.at) × (r.offset ≡ v.offset)
  pub goes : r.ends ≡ false → r.at ≡ v.at + size_of (kind_of bytes)
  pub reach : r.ends ≡ false → v.offset + size_of (kind_of bytes) < 18446744073709551616 → r.offset ≡ v.offset + size_of (kind_of bytes)

-- something is left, the program goes on, and a line more has room
pub record Next (input : List ℕ) (v : Walked) : Type 0 where
  pub left : v.at < length input
  pub opened : v.ends ≡ false
  pub few : v.used ≤ 40000

-- there is none; where none was taken either, there is none to take
pub record Last (input : List ℕ) (v : Walked) : Type 0 where
  pub cut : v.at ≡ 0 → v.used ≡ 0 → v.ends ≡ false → Cut input

-- what stands ahead: a record to answer, a byte that is no kind, or no step to take
pub record Ahead (input : List ℕ) (v : Walked) (found : Found) : Type 0 where
  pub takes : found ≡ Whole → Next input v × (is_whole (drop v.at input) ≡ true)
  pub unknown : found ≡ Unknown → Next input v × (known (kind_of (drop v.at input)) ≡ false)
  pub rests : found ≡ Short → Last input v

-- the refusal of such a byte ends the program
pub record Ended (v : Walked) (found : Found) (out : List ℕ) (r : Walked) (out' : List ℕ) : Type 0 where
  pub said : found ≡ Unknown → Said (refused_line 10 v.offset) out v.used r.used out'
  pub place : found ≡ Unknown → (r.at ≡ v.at) × (r.offset ≡ v.offset) × (r.ends ≡ true)
  pub keeps : (found ≡ Unknown → ⊥) → (r ≡ v) × (out' ≡ out)
