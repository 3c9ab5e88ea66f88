use Rattle.std.proofs.Common.{rules}
use Rattle.words.proofs.Walking.{fill_none}
use Rattle.layers.proofs.layer.layer_of.Goals as goal

pub loop-v-init : goal.loop-v-init
loop-v-init g c = fill_none 32 _ c.args.palette _ (search rules)
