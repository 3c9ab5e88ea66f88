-- What an accepted settle makes of the record a: each field of b. Assumes nothing.
use Rattle.std.specs.Prelude.{◌≡◌, ℕ, ◌+◌, ◌<◌, ◌≤◌, List, sum_by, take, slice_index}
use Rattle.words.specs.Sets.{Holds, size}
use Rattle.record.specs.declared.record.Record.{Record}
use Rattle.record.specs.declared.stand.Stand.TheVariants.{Settled, Dead}
use Rattle.record.specs.Calls.{SameMarks, SameSize}
use Rattle.layers.specs.Rows.{Model, Possible, Uses, Yields}

-- the palettes of a record's parts
abbrev pub parts_of : Record → List ℕ
parts_of a = take a.n a.current.palettes

-- how many hatchings some palettes have together
abbrev pub total : List ℕ → ℕ
total = sum_by (size 32)

-- settle: so many hatchings and so many results fall
pub record Settles (m : Model) (a : Record) (hatchings results : ℕ) (b : Record) : Type 0 where
  -- each part keeps exactly the hatchings that some complete row uses there
  pub used : (i : ℕ) → i < a.n → Holds (slice_index b.current.palettes i) (Uses m (parts_of a) a.current.results i)
  pub others : (i : ℕ) → a.n ≤ i → slice_index b.current.palettes i ≡ slice_index a.current.palettes i
  -- and the results those that some complete row has
  pub had : Holds b.current.results (Yields m (parts_of a) a.current.results)
  pub settled : Possible m (parts_of a) a.current.results → b.current.stand ≡ Settled
  pub dead : (Possible m (parts_of a) a.current.results → ⊥) → b.current.stand ≡ Dead
  -- what fell is what stood before less what stands after
  pub fallen_hatchings : total (parts_of a) ≡ total (parts_of b) + hatchings
  pub fallen_results : size 64 a.current.results ≡ size 64 b.current.results + results
  pub same_size : SameSize a b
  pub same_marks : SameMarks a b
