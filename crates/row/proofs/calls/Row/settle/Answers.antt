use Rattle.std.proofs.Common.{rules}
use Rattle.bare.proofs.Carrying.{carries_settle}
use Rattle.row.proofs.calls.Row.settle.Goals as goal

pub returns-clause-carries : goal.returns-clause-carries
returns-clause-carries g c = λ x agrees. carries_settle _ x _ _ agrees _ c.settle.result (search rules)
