use Rattle.std.proofs.Common.{rules}
use Rattle.layers.proofs.Making.{holds_laid}
use Rattle.layers.proofs.backward.last_layer.Goals as goal

pub returns : goal.returns
returns c = holds_laid _ c.args.palette _ (λ v x i given. search rules) _ c.layer_of.ensures
