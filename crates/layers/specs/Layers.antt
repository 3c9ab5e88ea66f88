-- Layers: for each hatching of a part a set of states. Assumes nothing.
use Rattle.std.specs.Prelude.{◌≡◌, ℕ, ◌+◌, ◌*◌, ◌<◌, List, length, slice_index}
use Rattle.words.specs.Sets.{In, Holds}
use Rattle.tallies.specs.Machines.{Machine, Image, Preimage}

-- word v of the 32 words of part i holds exactly the states s of which P v s is true
abbrev pub Stored : List ℕ → ℕ → (ℕ → ℕ → Type 0) → Type 0
Stored words i P = (v : ℕ) → v < 32 → Holds (slice_index words (32 * i + v)) (P v)

-- some step into w, from a state that the layer has at a hatching v of which From v is true, gives s
abbrev pub Arrives : Machine → List ℕ → (ℕ → Type 0) → ℕ → ℕ → Type 0
Arrives k layer From w s = (v : ℕ) × (From v × Image k (slice_index layer v) v w s)

-- s is one of the states, and some step from v, to a hatching w of which To w is true, takes it into the layer
abbrev pub Departs : Machine → ℕ → List ℕ → (ℕ → Type 0) → ℕ → ℕ → Type 0
Departs k states layer To v s = (w : ℕ) × (To w × Preimage k states v w (slice_index layer w) s)

-- a closure may be called at each hatching, where Pre v says that it may at v
abbrev pub TakesHatchings : (ℕ → Type 0) → Type 0
TakesHatchings Pre = (v : ℕ) → v < 32 → Pre v

-- the layer has at each hatching v of the palette a set that is given for v, and at the others no state
pub record IsLaid (given : ℕ → ℕ → Type 0) (palette : ℕ) (layer : List ℕ) : Type 0 where
  pub size : length layer ≡ 32
  pub each : (v : ℕ) → In v palette → given v (slice_index layer v)
  pub others : (v : ℕ) → (In v palette → ⊥) → slice_index layer v ≡ 0

-- the set has exactly the states of such a layer
abbrev pub IsUnited : (ℕ → ℕ → Type 0) → ℕ → ℕ → Type 0
IsUnited given palette states = (layer : List ℕ) × (IsLaid given palette layer × Holds states (λ s. (v : ℕ) × In s (slice_index layer v)))
