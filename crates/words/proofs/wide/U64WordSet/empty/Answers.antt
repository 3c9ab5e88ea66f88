use Rattle.std.proofs.Common.{rules}
use Rattle.words.proofs.Membership.{holds_zero}
use Rattle.words.proofs.wide.U64WordSet.empty.Goals as goal

pub returns : goal.returns
returns c = search (rules, holds_zero)
