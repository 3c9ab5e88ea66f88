use Rattle.std.proofs.Common.{rules}
use Rattle.words.proofs.Membership.{holds_low}
use Rattle.words.proofs.widths.U32WordWithin64.narrow.Goals as goal

pub returns : goal.returns
returns c = search (rules, holds_low 32)
