-- What the lent words hold once the live states are found. Assumes nothing.
use Rattle.std.specs.Prelude.{◌≡◌, ℕ, ◌+◌, ◌*◌, ◌<◌, ◌≤◌, List, length, slice_index}
use Rattle.layers.specs.declared.shortage.Shortage.{Shortage}
use Rattle.layers.specs.declared.shortage.Shortage.TheVariants.{Scratch, Strip}
use Rattle.layers.specs.Layers.{Stored}
use Rattle.layers.specs.Rows.{Model, Live}

-- there are 32 words for each of so many parts
abbrev pub HasRoom : ℕ → List ℕ → Type 0
HasRoom parts words = 32 * parts ≤ length words

-- the layer is what the words of part i hold
pub record IsLoaded (i : ℕ) (words layer : List ℕ) : Type 0 where
  pub size : length layer ≡ 32
  pub same : (v : ℕ) → v < 32 → slice_index layer v ≡ slice_index words (32 * i + v)

-- the words of part i become what the layer holds, and those below and above stay
pub record Stores (i : ℕ) (layer old new : List ℕ) : Type 0 where
  pub here : (v : ℕ) → v < 32 → slice_index new (32 * i + v) ≡ slice_index layer v
  pub below : (k : ℕ) → k < 32 * i → slice_index new k ≡ slice_index old k
  pub above : (k : ℕ) → 32 * i + 32 ≤ k → slice_index new k ≡ slice_index old k

-- There is room for each part, and word 32 × i + v holds exactly the live states of part i and hatching v.
pub record Lives (m : Model) (palettes : List ℕ) (allowed : ℕ) (words : List ℕ) : Type 0 where
  pub room : HasRoom (length palettes) words
  pub live : (i : ℕ) → i < length palettes → Stored words i (Live m palettes allowed i)

-- what stands in one list from n on stands there in the other
abbrev pub SameFrom : ℕ → List ℕ → List ℕ → Type 0
SameFrom n xs ys = (k : ℕ) → n ≤ k → slice_index xs k ≡ slice_index ys k

-- what is short for a row of n parts: the scratch of so many words, or else the strip of so many bytes
abbrev pub Shortens : ℕ → ℕ → ℕ → Shortage → Type 0
Shortens n words bytes Scratch = words < 32 * n
Shortens n words bytes Strip = (32 * n ≤ words) × (bytes < n)

-- the number of each shortage
abbrev pub shortage_number : Shortage → ℕ
shortage_number Scratch = 9
shortage_number Strip = 10
