use Rattle.std.proofs.Common.{ℕ, ◌<◌, slice_index}
use Rattle.words.specs.Sets.{In, Holds}
use Rattle.verdicts.proofs.reading.used_at.Given as goal

-- those below v
abbrev pub invariant-loop-v : goal.invariant-loop-v
invariant-loop-v l = Holds l.used (λ v. (v < l.v) × ((s : ℕ) × In s (slice_index l.states-items v)))
