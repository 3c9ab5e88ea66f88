use Rattle.std.proofs.Common.{◌≡◌, true}
use Rattle.words.specs.Sets.{In, Holds}
use Rattle.words.proofs.Walking.{Filling}
use Rattle.neighbours.proofs.table.table_of.Given as goal

abbrev pub invariant-loop-v : goal.invariant-loop-v
invariant-loop-v g l = Filling 32 (λ v x. Holds x (λ w. In w l.used × (g.R.NeighbourRule.pairs l.rule v w ≡ true))) l.used l.v-iterator.rest l.table
