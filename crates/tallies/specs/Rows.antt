-- Finished rows, and what is wrong with one that is not. Assumes nothing.
use Rattle.std.specs.Prelude.{◌≡◌, ℕ, ◌<◌, ◌≤◌, List, length, slice_index}
use Rattle.tallies.specs.declared.finished.RowFault.{RowFault}
use Rattle.tallies.specs.declared.finished.RowFault.TheVariants.{Empty, TooHigh}

-- a finished row: at least one part, and a hatching at each
abbrev pub Finished : List ℕ → Type 0
Finished xs = (0 < length xs) × ((i : ℕ) → i < length xs → slice_index xs i ≤ 31)

-- the fault of numbers that are no finished row: there are none, or the first above 31 stands at i
abbrev pub Faulty : List ℕ → RowFault → Type 0
Faulty xs Empty = length xs ≡ 0
Faulty xs (TooHigh i) = (i < length xs) × (31 < slice_index xs i) × ((j : ℕ) → j < i → slice_index xs j ≤ 31)
