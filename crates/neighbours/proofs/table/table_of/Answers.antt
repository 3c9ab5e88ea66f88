use Rattle.std.proofs.Common.{rules}
use Rattle.words.proofs.Walking.{fill_none, fill_holds}
use Rattle.neighbours.proofs.table.table_of.Goals as goal

pub loop-v-init : goal.loop-v-init
loop-v-init g c = fill_none 32 _ c.args.used _ (search rules)

pub returns : goal.returns
returns g c = fill_holds 32 _ _ c.loop-v.v-iterator.rest _ c.in-None.ensures.steps c.loop-v.invariant
