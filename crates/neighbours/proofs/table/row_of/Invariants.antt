use Rattle.std.proofs.Common.{◌≡◌, true}
use Rattle.words.proofs.Walking.{Gathering}
use Rattle.neighbours.proofs.table.row_of.Given as goal

abbrev pub invariant-loop-w : goal.invariant-loop-w
invariant-loop-w g l =
    Gathering (λ w k. (k ≡ w) × (g.R.NeighbourRule.pairs l.rule l.v w ≡ true)) l.used l.w-iterator.rest l.row
