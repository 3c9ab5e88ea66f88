-- A table of 32 words as a set of pairs. Assumes nothing.
use Rattle.std.specs.Prelude.{ℕ, Bool, List, nat_eq, slice_index}
use Rattle.words.specs.Sets.{bit}
use Rattle.rules.specs.Pairs.{on_hatchings}

-- (a, b) is in the table where bit b of word a is one
abbrev pub table_pairs : List ℕ → ℕ → ℕ → Bool
table_pairs words = on_hatchings (λ a b. nat_eq (bit (slice_index words a) b) 1)
