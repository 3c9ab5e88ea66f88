use Rattle.std.proofs.Common.{rules}
use Rattle.layers.proofs.Making.{holds_united}
use Rattle.layers.proofs.backward.departures.Goals as goal

pub returns : goal.returns
returns g c = holds_united _ c.args.to _ (λ v x i given. search rules) _ c.united.ensures
