use Rattle.std.proofs.Common.{rules}
use Rattle.words.proofs.Membership.{some_member}
use Rattle.verdicts.proofs.reading.has_state.Goals as goal

pub returns : goal.returns
returns c = search (rules, some_member 64)
