use Rattle.layers.proofs.Making.{Uniting}
use Rattle.layers.proofs.layer.united.Given as goal

abbrev pub invariant-loop-v : goal.invariant-loop-v
invariant-loop-v g l = Uniting (goal.F-post g l.states) l.set l.v-iterator.rest l.all
