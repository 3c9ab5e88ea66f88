use Rattle.std.proofs.Common.{rules}
use Rattle.words.proofs.Membership.{decides_member, decides_past}
use Rattle.words.proofs.wide.U64WordSet.contains.Goals as goal
use Rattle.std.proofs.lemmas.Bool.{ltb-true}

pub returns-then-k-lt64 : goal.returns-then-k-lt64
returns-then-k-lt64 c = search (rules, decides_member)

pub returns-else-k-lt64 : goal.returns-else-k-lt64
returns-else-k-lt64 c = search (rules, decides_past 64, ltb-true)
