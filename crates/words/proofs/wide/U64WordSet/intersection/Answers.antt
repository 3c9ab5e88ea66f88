use Rattle.std.proofs.Common.{rules}
use Rattle.words.proofs.Membership.{holds_intersection}
use Rattle.words.proofs.wide.U64WordSet.intersection.Goals as goal

pub returns : goal.returns
returns c = search (rules, holds_intersection)
