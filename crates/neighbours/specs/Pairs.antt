-- Pairs of hatchings that a row's palettes have. Assumes nothing.
use Rattle.std.specs.Prelude.{◌≡◌, Bool, true, List, ℕ, ◌<◌, length, slice_index}
use Rattle.words.specs.Sets.{In}

-- some palette has v
abbrev pub InUse : List ℕ → ℕ → Type 0
InUse palettes v = (i : ℕ) × ((i < length palettes) × In v (slice_index palettes i))

-- (v, w) is a pair of the rule, and both are in use
abbrev pub PairInUse : (ℕ → ℕ → Bool) → List ℕ → ℕ → ℕ → Type 0
PairInUse pairs palettes v w = InUse palettes v × (InUse palettes w × (pairs v w ≡ true))
