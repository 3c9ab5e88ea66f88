-- What the two passes find: the states in which a part can be reached, and those from which the row can be completed. Assumes nothing.
use Rattle.std.specs.Prelude.{◌≡◌, ℕ, zero, suc, ◌-◌, ◌<◌, Bool, true, List, length, slice_index}
use Rattle.words.specs.Sets.{In, HoldsEach}
use Rattle.tallies.specs.Machines.{Machine}
use Rattle.neighbours.specs.Pairs.{PairInUse}
use Rattle.layers.specs.Layers.{Stored}
use Rattle.layers.specs.Rows.{Model, model}

-- the parts up to i can be chosen so that v stands at i and the tally is s there
abbrev pub Reachable : Model → List ℕ → ℕ → ℕ → ℕ → Type 0
Reachable m palettes zero v s = (In v (slice_index palettes zero)) × (m.machine.start v ≡ s)
Reachable m palettes (suc i) v s =
    (In v (slice_index palettes (suc i)))
    × ((u : ℕ) × ((m.pairs u v ≡ true) × ((p : ℕ) × (Reachable m palettes i u p × (m.machine.step p u v ≡ s)))))

-- the d parts after part i can be chosen so that a row with v at i and the tally s there comes to an allowed result
abbrev pub Completable : Model → List ℕ → ℕ → ℕ → ℕ → ℕ → ℕ → Type 0
Completable m palettes allowed zero i v s = In (m.machine.result s) allowed
Completable m palettes allowed (suc d) i v s =
    (w : ℕ) × ((In w (slice_index palettes (suc i))) × (m.pairs v w ≡ true) × Completable m palettes allowed d (suc i) w (m.machine.step s v w))

-- both
abbrev pub Through : Model → List ℕ → ℕ → ℕ → ℕ → ℕ → ℕ → Type 0
Through m palettes allowed d i v s = Reachable m palettes i v s × Completable m palettes allowed d i v s

-- The words hold the reachable states of every part, for each set of pairs of which `before` is the table.
abbrev pub Reaches : Machine → List ℕ → List ℕ → List ℕ → Type 0
Reaches k before palettes words =
    (p : ℕ → ℕ → Bool) → HoldsEach before (λ w v. PairInUse p palettes v w)
    → (i : ℕ) → i < length palettes → Stored words i (Reachable (model p k) palettes i)

-- Where the words `old` hold the reachable states, the words `new` hold those that can be completed, for each set of pairs of which `after` is the table.
abbrev pub Retains : Machine → List ℕ → List ℕ → ℕ → List ℕ → List ℕ → Type 0
Retains k after palettes allowed old new =
    (p : ℕ → ℕ → Bool) → HoldsEach after (PairInUse p palettes)
    → ((i : ℕ) → i < length palettes → Stored old i (Reachable (model p k) palettes i))
    → (i : ℕ) → i < length palettes → Stored new i (Through (model p k) palettes allowed (length palettes - suc i) i)
