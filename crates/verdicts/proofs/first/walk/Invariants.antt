use Rattle.std.proofs.Common.{◌≡◌, ℕ, ◌-◌, ◌≤◌, get_or}
use Rattle.layers.specs.Scratch.{Lives}
use Rattle.layers.specs.Rows.{model}
use Rattle.verdicts.proofs.Walks.{Begun}
use Rattle.verdicts.proofs.first.walk.Given as goal

-- the parts below i are written, and the bytes from i on are as they were
abbrev pub invariant-loop-i : goal.invariant-loop-i
invariant-loop-i g l =
    ((allowed : ℕ) → Lives (model (g.R.NeighbourRule.pairs l.rule) (g.T.Tally.machine l.tally)) l.palettes allowed l.live
    → Begun (model (g.R.NeighbourRule.pairs l.rule) (g.T.Tally.machine l.tally)) l.palettes allowed l.strip (l.i - 1) l.v l.s)
    × ((k : ℕ) → l.i ≤ k → get_or l.strip k 0 ≡ get_or l.initial.strip k 0)
