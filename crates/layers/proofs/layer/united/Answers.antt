use Rattle.std.proofs.Common.{rules}
use Rattle.layers.proofs.Making.{unite_none, unite_more}
use Rattle.layers.proofs.layer.united.Goals as goal

pub loop-v-init : goal.loop-v-init
loop-v-init g c = search (rules, unite_none)

pub loop-v-preserved : goal.loop-v-preserved
loop-v-preserved g c = unite_more _ _ _ _ _ c.states.result _ _ c.in-Some.ensures.steps (search rules) (search rules) c.loop-v.invariant
