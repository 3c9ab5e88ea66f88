use Rattle.std.proofs.Common.{rules}
use Rattle.layers.proofs.Making.{holds_laid}
use Rattle.layers.proofs.forward.advance.Goals as goal

pub returns : goal.returns
returns g c = holds_laid _ c.args.next _ (λ v x i given. search rules) _ c.layer_of.ensures
