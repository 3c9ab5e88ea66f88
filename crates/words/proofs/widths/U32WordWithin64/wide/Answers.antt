use Rattle.std.proofs.Common.{rules}
use Rattle.words.proofs.Bits.{in_below}
use Rattle.words.proofs.widths.U32WordWithin64.wide.Goals as goal

pub returns-clause-inside : goal.returns-clause-inside
returns-clause-inside c = search (rules, in_below 32)
