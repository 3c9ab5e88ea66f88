use Rattle.std.proofs.Common.{ℕ, suc, ◌-◌, ◌*◌, ◌<◌, ◌≤◌, Bool, length}
use Rattle.words.specs.Sets.{HoldsEach}
use Rattle.neighbours.specs.Pairs.{PairInUse}
use Rattle.layers.specs.Layers.{Stored}
use Rattle.layers.specs.Passes.{Reachable, Through}
use Rattle.layers.specs.Rows.{model}
use Rattle.layers.specs.Scratch.{SameFrom}
use Rattle.layers.proofs.backward.backward.Given as goal

-- the parts from i on are done, `live` is the layer of part i, the parts below are as the forward pass left them, and the words past the row are as they were
abbrev pub invariant-loop-i : goal.invariant-loop-i
invariant-loop-i g l = record {
  through : (p : ℕ → ℕ → Bool) → HoldsEach l.neighbours.after (PairInUse p l.palettes)
      → ((j : ℕ) → j < length l.palettes → Stored l.fn.scratch j (Reachable (model p (g.T.Tally.machine l.tally)) l.palettes j))
      → HoldsEach l.live (Through (model p (g.T.Tally.machine l.tally)) l.palettes l.allowed (length l.palettes - suc l.i) l.i)
      × ((j : ℕ) → j < l.i → Stored l.scratch j (Reachable (model p (g.T.Tally.machine l.tally)) l.palettes j))
      × ((j : ℕ) → l.i ≤ j → j < length l.palettes
      → Stored l.scratch j (Through (model p (g.T.Tally.machine l.tally)) l.palettes l.allowed (length l.palettes - suc j) j));
  rest : SameFrom (32 * length l.palettes) l.scratch l.initial.scratch;
}
