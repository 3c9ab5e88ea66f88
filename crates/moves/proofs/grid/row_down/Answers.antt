use Rattle.std.proofs.Common.{◌*◌, ◌^◌, refl, rules}
use Rattle.moves.specs.Maps.{row_down}
use Rattle.moves.proofs.Memberwise.{shl, and, or}
use Rattle.moves.proofs.Singles.{holds_image}
use Rattle.moves.proofs.grid.row_down.Goals as goal

pub returns : goal.returns
returns c = search (rules, holds_image row_down (or (shl 8) (and (0xff * 2 ^ 56))) refl)
