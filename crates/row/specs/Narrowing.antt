-- Palettes narrowed to what the live states use. Assumes nothing.
use Rattle.std.specs.Prelude.{◌≡◌, ℕ, ◌+◌, ◌<◌, List, length, slice_index}
use Rattle.words.specs.Sets.{In, Holds}
use Rattle.verdicts.specs.Verdicts.{WordHas}
use Rattle.bare.specs.Settling.{total}

-- each palette keeps what it had of the hatchings that have a word with a state, and k hatchings fall
pub record Narrows (before live : List ℕ) (k : ℕ) (after : List ℕ) : Type 0 where
  pub size : length after ≡ length before
  pub palettes : (i : ℕ) → i < length before → Holds (slice_index after i) (λ v. In v (slice_index before i) × ((s : ℕ) × WordHas live i v s))
  pub fallen : total before ≡ total after + k
