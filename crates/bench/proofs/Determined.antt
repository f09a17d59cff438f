-- Any two outcomes that a contract allows are equal, answer and memory. Assumes nothing.
use mathlib.Core.Path.{◌≡◌, sym, ◌∙◌}
use mathlib.Core.List.{List}
use Prim.Native.Nat.{ℕ}
use Rattle.bench.specs.Numbers.{Outcome, Copied}

-- `bench_new`, `bench_push_style`, `bench_push_rules`, `bench_build`, `bench_enter`, `bench_changed`
pub outcome_determined : {M : Type 0} {verdict number : ℕ} {before accepted : M} {r r' : ℕ} {after after' : M}
    → Outcome verdict number before accepted r after → Outcome verdict number before accepted r' after' → (r ≡ r') × (after ≡ after')
outcome_determined p q = (p.answer ∙ sym q.answer, p.memory ∙ sym q.memory)

-- `bench_matching`
pub copied_determined : {list before : List ℕ} {r r' : ℕ} {after after' : List ℕ} → Copied list before r after → Copied list before r' after' → (r ≡ r') × (after ≡ after')
copied_determined p q = (p.count ∙ sym q.count, p.whole ∙ sym q.whole)
