use Rattle.std.proofs.Common.{rules}
use Rattle.words.proofs.Membership.{holds_with, holds_with_past}
use Rattle.words.proofs.wide.U64WordSet.with.Goals as goal

pub returns-then-k-lt64 : goal.returns-then-k-lt64
returns-then-k-lt64 c = search (rules, holds_with 64)

pub returns-else-k-lt64 : goal.returns-else-k-lt64
returns-else-k-lt64 c = search (rules, holds_with_past 64)
