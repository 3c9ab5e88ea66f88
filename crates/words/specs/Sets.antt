-- A word as a set of small numbers: k is in it where bit k is one. Assumes nothing.
use Rattle.std.specs.Prelude.{◌≡◌, ℕ, zero, suc, ◌+◌, ◌/◌, ◌%◌, ◌^◌, ◌<◌, ◌≤◌, List, Some, None, Option, ◌≢◌, slice_index}

-- bit k of the word w, lowest first: 0 or 1
unfoldable pub bit : ℕ → ℕ → ℕ
bit w k = w / 2 ^ k % 2

-- k is in the set w
abbrev pub In : ℕ → ℕ → Type 0
In k w = bit w k ≡ 1

-- the set w holds exactly the numbers of which P is true
abbrev pub Holds : ℕ → (ℕ → Type 0) → Type 0
Holds w P = (k : ℕ) → (In k w → P k) × (P k → In k w)

-- the same of a list of sets: set v holds exactly the numbers k of which P v k is true
abbrev pub HoldsEach : List ℕ → (ℕ → ℕ → Type 0) → Type 0
HoldsEach sets P = (v : ℕ) → Holds (slice_index sets v) (P v)

-- how many numbers below n are in the set w
unfoldable pub size : ℕ → ℕ → ℕ
size zero w = 0
size (suc n) w = bit w n + size n w

-- the least number at or above `from` of which P is true, or nothing where there is none
abbrev pub Lowest : (ℕ → Type 0) → ℕ → Option ℕ → Type 0
Lowest P from (Some k) = (from ≤ k) × P k × ((j : ℕ) → from ≤ j → j < k → P j → ⊥)
Lowest P from None = (k : ℕ) → from ≤ k → P k → ⊥

-- the lowest number of the set w, of n bits, is taken out of it, or there is none
abbrev pub Takes : ℕ → ℕ → Option ℕ → ℕ → Type 0
Takes n w (Some k) rest = (k < n) × In k w × ((j : ℕ) → j < k → In j w → ⊥) × Holds rest (λ j. In j w × (j ≢ k))
Takes n w None rest = (k : ℕ) → In k w → ⊥
