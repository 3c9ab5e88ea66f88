use Rattle.std.proofs.Common.{rules}
use Rattle.words.proofs.Walking.{gather_none}
use Rattle.neighbours.proofs.table.row_of.Goals as goal

pub loop-w-init : goal.loop-w-init
loop-w-init g c = gather_none _ c.args.used _ (search rules)
