use Rattle.std.proofs.Common.{ℕ, ◌-◌, ◌*◌, ◌<◌, Bool, length}
use Rattle.words.specs.Sets.{HoldsEach}
use Rattle.neighbours.specs.Pairs.{PairInUse}
use Rattle.layers.specs.Layers.{Stored}
use Rattle.layers.specs.Passes.{Reachable}
use Rattle.layers.specs.Rows.{model}
use Rattle.layers.specs.Scratch.{SameFrom}
use Rattle.layers.proofs.forward.forward.Given as goal

-- the parts below i are done, the layer is that of the last of them, and the words past the row are as they were
abbrev pub invariant-loop-i : goal.invariant-loop-i
invariant-loop-i g l = record {
  reached : (p : ℕ → ℕ → Bool) → HoldsEach l.neighbours.before (λ w v. PairInUse p l.palettes v w)
      → HoldsEach l.layer (Reachable (model p (g.T.Tally.machine l.tally)) l.palettes (l.i - 1))
      × ((j : ℕ) → j < l.i → Stored l.scratch j (Reachable (model p (g.T.Tally.machine l.tally)) l.palettes j));
  rest : SameFrom (32 * length l.palettes) l.scratch l.initial.scratch;
}
