use Rattle.std.proofs.Common.{rules}
use Rattle.words.proofs.Membership.{holds_union}
use Rattle.words.proofs.wide.U64WordSet.union.Goals as goal

pub returns : goal.returns
returns c = search (rules, holds_union)
