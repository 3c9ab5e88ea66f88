use Rattle.std.proofs.Common.{◌^◌, refl, rules}
use Rattle.moves.specs.Maps.{one_up}
use Rattle.moves.proofs.Memberwise.{shl, and, or}
use Rattle.moves.proofs.Singles.{holds_image}
use Rattle.moves.proofs.counts.one_up.Goals as goal

pub returns : goal.returns
returns c = search (rules, holds_image one_up (or (shl 1) (and (2 ^ 63))) refl)
