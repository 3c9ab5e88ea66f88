-- What is told of a row once its live states are found. Assumes nothing.
use Rattle.std.specs.Prelude.{IfSome, IfNone, Bool, true, false, ◌≡◌, ℕ, ◌+◌, ◌*◌, ◌<◌, ◌≤◌, List, length, take, Some, None, Option, slice_index}
use Rattle.words.specs.Sets.{In}
use Rattle.tallies.specs.Machines.{outcome}
use Rattle.layers.specs.Rows.{Model, Possible, First}
use Rattle.layers.specs.Scratch.{Lives, SameFrom}

-- no palette has a number above 31
abbrev pub Palettes : List ℕ → Type 0
Palettes palettes = (i v : ℕ) → In v (slice_index palettes i) → v < 32

-- all 32 words of part i are there, and word v of them holds the state s
abbrev pub WordHas : List ℕ → ℕ → ℕ → ℕ → Type 0
WordHas words i v s = (v < 32) × ((32 * i + 32 ≤ length words) × In s (slice_index words (32 * i + v)))

-- some word of part i holds the state s
abbrev pub PartHas : List ℕ → ℕ → ℕ → Type 0
PartHas words i s = (v : ℕ) × WordHas words i v s

-- Where the words hold the live states of a row, P is true of that row: of its model, its palettes and its allowed results.
abbrev pub WhereLive : List ℕ → (Model → List ℕ → ℕ → Type 0) → Type 0
WhereLive words P = (m : Model) (palettes : List ℕ) (allowed : ℕ) → Palettes palettes → Lives m palettes allowed words → P m palettes allowed

-- The lowest member of the set for which a test says true, or nothing where there is none; Says v b tells that it says b of v.
pub record IsLowest (Says : ℕ → Bool → Type 0) (set : ℕ) (o : Option ℕ) : Type 0 where
  pub found : IfSome o (λ v. In v set × Says v true)
  pub passed : IfSome o (λ v. (u : ℕ) → u < v → In u set → Says u false)
  pub none : IfNone o ((u : ℕ) → In u set → Says u false)

-- What becomes of a strip and what is answered: the first complete row and its result, or nothing where no row is complete.
abbrev pub Fills : Model → List ℕ → ℕ → List ℕ → List ℕ → Option ℕ → Type 0
Fills m palettes allowed before after None = (Possible m palettes allowed → ⊥) × (after ≡ before)
Fills m palettes allowed before after (Some k) =
    First m palettes allowed (take (length palettes) after)
    × (k ≡ outcome m.machine (take (length palettes) after))
    × SameFrom (length palettes) after before
