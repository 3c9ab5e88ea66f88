use Rattle.std.proofs.Common.{◌≡◌, ℕ, ◌<◌, slice_index_or}
use Rattle.words.specs.Sets.{In, Holds}
use Rattle.words.proofs.unions.union_of.Given as goal

-- what is in a set before the one to come
abbrev pub invariant-loop-set : goal.invariant-loop-set
invariant-loop-set g l =
    Holds (g.W.WordSet.word l.all) (λ k. (i : ℕ) × (set : _) × (i < l.set-index) × (slice_index_or l.sets i set ≡ set) × In k (g.W.WordSet.word set))
