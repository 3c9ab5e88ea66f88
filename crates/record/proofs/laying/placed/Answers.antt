use Rattle.std.proofs.Common.{rules}
use Rattle.record.proofs.Zeros.{zeros_behind}
use Rattle.record.proofs.laying.placed.Goals as goal

pub returns : goal.returns
returns c = search (rules, zeros_behind 60)
