use Rattle.std.proofs.Common.{rules}
use Rattle.record.proofs.Zeros.{none_in_zeros}
use Rattle.record.proofs.record.Record.blank.Goals as goal

pub invariant_of-result : goal.invariant_of-result
invariant_of-result c = search (rules, none_in_zeros 60)
