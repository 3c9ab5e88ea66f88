-- Plateaus: the plateau counter, and the LONGESTPLATEAU that it comes to. Assumes nothing.
use Rattle.std.specs.Prelude.{◌≡◌, ℕ, ◌+◌, ◌-◌, ◌*◌, ◌/◌, ◌%◌, ◌<◌, ◌≤◌, min, max, cond, List, length, ◌==◌, slice_index}
use Rattle.tallies.specs.Machines.{Machine, on_states, outcome}
use Rattle.tallies.specs.Rows.{Finished}

-- A state of the plateau counter holds the current run and the longest run, both from 1 to 8; 8 is eight or more.
abbrev pub runs : ℕ → ℕ → ℕ
runs current longest = 8 * (current - 1) + (longest - 1)

-- the two again, out of a state
abbrev pub current_run : ℕ → ℕ
current_run s = s / 8 + 1

abbrev pub longest_run : ℕ → ℕ
longest_run s = s % 8 + 1

-- the current run after w, where it was k after v
abbrev pub run_after : ℕ → ℕ → ℕ → ℕ
run_after k v w = cond (v == w) (min (k + 1) 8) 1

-- The plateau counter.
abbrev pub plateau_machine : Machine
plateau_machine = on_states 64 (record {
  start = λ v. runs 1 1;
  step = λ s v w. runs (run_after (current_run s) v w) (max (longest_run s) (run_after (current_run s) v w));
  result = longest_run;
})

-- the k hatchings from position i on stand in the row and are equal
pub record Run (xs : List ℕ) (i k : ℕ) : Type 0 where
  pub within : i + k ≤ length xs
  pub equal : (j : ℕ) → j < k → slice_index xs (i + j) ≡ slice_index xs i

-- LONGESTPLATEAU: some run has length m, and none is longer
pub record LongestPlateau (xs : List ℕ) (m : ℕ) : Type 0 where
  pub some : (i : ℕ) × Run xs i m
  pub most : (i k : ℕ) → Run xs i k → k ≤ m

-- What the plateau counter tells of a row xs: a longest run of k.
pub record Measures (xs : List ℕ) (k : ℕ) : Type 0 where
  pub finished : Finished xs
  -- it is the counter's result,
  pub result : k ≡ outcome plateau_machine xs
  -- which is the LONGESTPLATEAU up to 8
  pub longest : (m : ℕ) × (LongestPlateau xs m × (k ≡ min m 8))
