-- Complete rows, and what is told of them, over a rule's pairs and a tally's functions. Assumes nothing.
use Rattle.std.specs.Prelude.{◌≡◌, ℕ, ◌+◌, ◌<◌, Bool, true, List, length, take, slice_index}
use Rattle.words.specs.Sets.{In}
use Rattle.tallies.specs.Machines.{Machine, outcome, state}

-- What a neighbour rule and a tally mean together.
pub record Model : Type 0 where
  -- whether b may stand right after a
  pub pairs : ℕ → ℕ → Bool
  -- start, step and result
  pub machine : Machine

abbrev pub model : (ℕ → ℕ → Bool) → Machine → Model
model p k = record { pairs = p; machine = k }

-- A complete row takes one hatching from each palette, has every part and its next as a pair of the rule, and has an allowed result.
pub record Complete (m : Model) (palettes : List ℕ) (allowed : ℕ) (xs : List ℕ) : Type 0 where
  pub some : 0 < length xs
  pub parts : length xs ≡ length palettes
  pub chosen : (i : ℕ) → i < length xs → In (slice_index xs i) (slice_index palettes i)
  pub joined : (i : ℕ) → i + 1 < length xs → m.pairs (slice_index xs i) (slice_index xs (i + 1)) ≡ true
  pub ends : In (outcome m.machine xs) allowed

-- some complete row has v at part i
abbrev pub Uses : Model → List ℕ → ℕ → ℕ → ℕ → Type 0
Uses m palettes allowed i v = (xs : List ℕ) × (Complete m palettes allowed xs × (slice_index xs i ≡ v))

-- some complete row has the result k
abbrev pub Yields : Model → List ℕ → ℕ → ℕ → Type 0
Yields m palettes allowed k = (xs : List ℕ) × (Complete m palettes allowed xs × (outcome m.machine xs ≡ k))

-- there is a complete row
abbrev pub Possible : Model → List ℕ → ℕ → Type 0
Possible m palettes allowed = (xs : List ℕ) × Complete m palettes allowed xs

-- the state s is live at part i and hatching v: some complete row has v there, and its tally is s after that part
abbrev pub Live : Model → List ℕ → ℕ → ℕ → ℕ → ℕ → Type 0
Live m palettes allowed i v s =
    (xs : List ℕ) × (Complete m palettes allowed xs × (slice_index xs i ≡ v) × (state m.machine (take (i + 1) xs) ≡ s))

-- Dictionary order: xs and ys agree below some part, and there xs has the smaller number.
abbrev pub Before : List ℕ → List ℕ → Type 0
Before xs ys = (k : ℕ) × ((k < length xs) × ((j : ℕ) → j < k → slice_index xs j ≡ slice_index ys j) × (slice_index xs k < slice_index ys k))

-- the first complete row in dictionary order
pub record First (m : Model) (palettes : List ℕ) (allowed : ℕ) (xs : List ℕ) : Type 0 where
  pub complete : Complete m palettes allowed xs
  pub none_before : (ys : List ℕ) → Complete m palettes allowed ys → Before ys xs → ⊥
