use Rattle.std.proofs.Common.{rules}
use Rattle.words.proofs.Membership.{holds_without, holds_without_past}
use Rattle.words.proofs.wide.U64WordSet.without.Goals as goal

pub returns-then-k-lt64 : goal.returns-then-k-lt64
returns-then-k-lt64 c = search (rules, holds_without 64)

pub returns-else-k-lt64 : goal.returns-else-k-lt64
returns-else-k-lt64 c = search (rules, holds_without_past 64 c.args.self c.args.k)
