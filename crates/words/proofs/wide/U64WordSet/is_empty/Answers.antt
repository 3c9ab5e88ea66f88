use Rattle.std.proofs.Common.{rules}
use Rattle.words.proofs.Membership.{decides_zero}
use Rattle.words.proofs.wide.U64WordSet.is_empty.Goals as goal

pub returns : goal.returns
returns c = search (rules, decides_zero)
