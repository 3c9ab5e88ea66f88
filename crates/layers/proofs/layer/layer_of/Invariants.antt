use Rattle.words.proofs.Walking.{Filling}
use Rattle.layers.proofs.layer.layer_of.Given as goal

abbrev pub invariant-loop-v : goal.invariant-loop-v
invariant-loop-v g l = Filling 32 (goal.F-post g l.states) l.palette l.v-iterator.rest l.layer
