use Rattle.std.proofs.Common.{rules}
use Rattle.words.proofs.Bits.{in_below}
use Rattle.words.proofs.widths.U64WordWithin64.narrow.Goals as goal

pub returns : goal.returns
returns c = search (rules, in_below 64)
