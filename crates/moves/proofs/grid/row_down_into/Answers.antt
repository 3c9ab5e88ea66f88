use Rattle.std.proofs.Common.{◌*◌, ◌^◌, refl, rules}
use Rattle.moves.specs.Maps.{row_down}
use Rattle.moves.proofs.Memberwise.{shr, and, or}
use Rattle.moves.proofs.Singles.{holds_preimage}
use Rattle.moves.proofs.grid.row_down_into.Goals as goal

pub returns : goal.returns
returns c = search (rules, holds_preimage row_down (or (shr 8) (and (0xff * 2 ^ 56))) refl)
