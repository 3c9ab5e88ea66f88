use Rattle.std.proofs.Common.{◌^◌, refl, rules}
use Rattle.moves.specs.Maps.{one_up}
use Rattle.moves.proofs.Memberwise.{shr, and, or}
use Rattle.moves.proofs.Singles.{holds_preimage}
use Rattle.moves.proofs.counts.one_up_into.Goals as goal

pub returns : goal.returns
returns c = search (rules, holds_preimage one_up (or (shr 1) (and (2 ^ 63))) refl)
