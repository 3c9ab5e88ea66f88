use Rattle.std.proofs.Common.{rules}
use Rattle.words.proofs.Bits.{bit_zero}
use Rattle.layers.proofs.Making.{holds_laid}
use Rattle.layers.proofs.forward.first_layer.Goals as goal

pub returns : goal.returns
returns g c = holds_laid _ c.args.palette _ (λ v x i given. search (rules, bit_zero)) _ c.layer_of.ensures
