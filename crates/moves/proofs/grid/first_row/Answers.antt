use Rattle.std.proofs.Common.{refl, rules}
use Rattle.moves.specs.Maps.{first_row}
use Rattle.moves.proofs.Memberwise.{same, shr, and, or, ◌⨾◌}
use Rattle.moves.proofs.Singles.{holds_image}
use Rattle.moves.proofs.grid.first_row.Goals as goal

pub returns : goal.returns
returns c = search (rules, holds_image first_row (or same (shr 32) ⨾ or same (shr 16) ⨾ or same (shr 8) ⨾ and 0xff) refl)
