-- Stretches: the stretch counter, and the SEQBIN count that it comes to. Assumes nothing.
use Rattle.std.specs.Prelude.{◌≡◌, ℕ, zero, suc, ◌+◌, ◌-◌, ◌≤◌, min, Bool, cond, not, List, length, slice_index}
use Rattle.tallies.specs.Machines.{Machine, on_states, outcome}
use Rattle.tallies.specs.Rows.{Finished}

-- The stretch counter over the pairs C: a state is the number of stretches so far, up to 63.
abbrev pub stretch_machine : (ℕ → ℕ → Bool) → Machine
stretch_machine C = on_states 64 (record { start = λ v. 1; step = λ s v w. cond (C v w) s (min (s + 1) 63); result = λ s. s })

-- how many positions below n pass the test p
unfoldable pub how_many : (ℕ → Bool) → ℕ → ℕ
how_many p zero = 0
how_many p (suc n) = cond (p n) 1 0 + how_many p n

-- SEQBIN: 1 and the number of positions at which a hatching and the next are not a pair of C
abbrev pub seqbin : (ℕ → ℕ → Bool) → List ℕ → ℕ
seqbin C xs = 1 + how_many (λ i. not (C (slice_index xs i) (slice_index xs (i + 1)))) (length xs - 1)

-- What the stretch counter over C tells of a row xs: k stretches.
pub record Stretches (C : ℕ → ℕ → Bool) (xs : List ℕ) (k : ℕ) : Type 0 where
  pub finished : Finished xs
  -- it is the counter's result,
  pub result : k ≡ outcome (stretch_machine C) xs
  -- which is the SEQBIN count up to 63,
  pub counts : k ≡ min (seqbin C xs) 63
  -- and that count itself for at most 60 parts
  pub exact : length xs ≤ 60 → k ≡ seqbin C xs
