-- Maps on the numbers below 64, and what they make of a set. Assumes nothing.
use Rattle.std.specs.Prelude.{◌≡◌, ℕ, ◌+◌, ◌*◌, ◌/◌, ◌%◌, ◌<◌, min, max}
use Rattle.words.specs.Sets.{In}

-- t is what f makes of some number of the set
abbrev pub Image : (ℕ → ℕ) → ℕ → ℕ → Type 0
Image f set t = (s : ℕ) × (In s set × (f s ≡ t))

-- s is a number below 64 that f takes into the set
abbrev pub Preimage : (ℕ → ℕ) → ℕ → ℕ → Type 0
Preimage f set s = (s < 64) × In (f s) set

-- one more, but not above 63
abbrev pub one_up : ℕ → ℕ
one_up s = min (s + 1) 63

-- The next three read a number below 64 as a cell of a grid: 8 times its row, and its column.

-- the cell's column, in the first row
abbrev pub first_row : ℕ → ℕ
first_row s = s % 8

-- the cell below, where there is one
abbrev pub row_down : ℕ → ℕ
row_down s = 8 * min (s / 8 + 1) 7 + s % 8

-- the cell itself, or that of the diagonal in its row where the cell stands left of it
abbrev pub to_diagonal : ℕ → ℕ
to_diagonal s = 8 * (s / 8) + max (s % 8) (s / 8)
