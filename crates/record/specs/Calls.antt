-- What an accepted call answers, and what it makes of the record a: each field of b. Assumes nothing.
use Rattle.std.specs.Prelude.{◌≡◌, ℕ, ◌+◌, ◌-◌, List, replicate, Option, ◌≢◌, slice_index, slice_set}
use Rattle.words.specs.Sets.{In, Holds, Lowest, size}
use Rattle.record.specs.declared.record.Record.{Record}
use Rattle.record.specs.declared.stand.Stand.TheVariants.{Blank, Open}
use Rattle.record.specs.Copies.{copy_of}
use Rattle.record.specs.Stands.{OpensIf}

-- as many parts and hatchings as before
pub record SameSize (a b : Record) : Type 0 where
  pub n : b.n ≡ a.n
  pub d : b.d ≡ a.d

-- the same marks as before
pub record SameMarks (a b : Record) : Type 0 where
  pub marks : b.marks ≡ a.marks
  pub undo : b.undo ≡ a.undo

-- the set r is w without v
abbrev pub Without : ℕ → ℕ → ℕ → Type 0
Without w v r = Holds r (λ u. In u w × (u ≢ v))

-- blank: there is nothing in the record
pub record NothingLaid (b : Record) : Type 0 where
  pub n : b.n ≡ 0
  pub d : b.d ≡ 0
  pub current : b.current ≡ record { palettes = replicate 60 0; results = 0; stand = Blank }
  pub marks : b.marks ≡ 0
  pub undo : b.undo.saved ≡ replicate 8 b.current

-- lay: the record is as given, open, and without a mark
pub record Lays (a : Record) (n d results : ℕ) (palettes : List ℕ) (k : ℕ) (b : Record) : Type 0 where
  pub answer : k ≡ n
  pub parts : b.n ≡ n
  pub hatchings : b.d ≡ d
  -- behind the last palette that is given, 0
  pub places : (i : ℕ) → slice_index b.current.palettes i ≡ slice_index palettes i
  pub allowed : b.current.results ≡ results
  pub stand : b.current.stand ≡ Open
  pub marks : b.marks ≡ 0
  pub undo : b.undo ≡ a.undo

-- withdraw: the part's palette is without v, and has k hatchings left
pub record Withdraws (a : Record) (part v k : ℕ) (b : Record) : Type 0 where
  pub answer : k ≡ size 32 (slice_index b.current.palettes part)
  pub palette : Without (slice_index a.current.palettes part) v (slice_index b.current.palettes part)
  pub others : (i : ℕ) → (i ≢ part) → slice_index b.current.palettes i ≡ slice_index a.current.palettes i
  pub results : b.current.results ≡ a.current.results
  pub stand : OpensIf (In v (slice_index a.current.palettes part)) a.current.stand b.current.stand
  pub same_size : SameSize a b
  pub same_marks : SameMarks a b

-- limit: the results are without this one, and k are left
pub record Limits (a : Record) (result k : ℕ) (b : Record) : Type 0 where
  pub answer : k ≡ size 64 b.current.results
  pub palettes : b.current.palettes ≡ a.current.palettes
  pub results : Without a.current.results result b.current.results
  pub stand : OpensIf (In result a.current.results) a.current.stand b.current.stand
  pub same_size : SameSize a b
  pub same_marks : SameMarks a b

-- mark: a copy of the record is put behind those that are held
pub record Saves (a : Record) (k : ℕ) (b : Record) : Type 0 where
  pub answer : k ≡ a.marks + 1
  pub marks : b.marks ≡ a.marks + 1
  pub undo : b.undo.saved ≡ slice_set a.undo.saved a.marks a.current
  pub same : b.current ≡ a.current
  pub same_size : SameSize a b

-- back: the record is again what the youngest mark saved, and that mark is dropped
pub record GoesBack (a : Record) (k : ℕ) (b : Record) : Type 0 where
  pub answer : k ≡ a.marks - 1
  pub marks : b.marks ≡ a.marks - 1
  pub undo : b.undo ≡ a.undo
  pub again : b.current ≡ copy_of a.undo (a.marks - 1)
  pub same_size : SameSize a b

-- look: the lowest hatching of the part's palette, at or above the number
abbrev pub Looks : Record → ℕ → ℕ → Option ℕ → Type 0
Looks a part number found = Lowest (λ v. In v (slice_index a.current.palettes part)) number found
