use Rattle.std.proofs.Common.{refl, rules}
use Rattle.moves.specs.Maps.{first_row}
use Rattle.moves.proofs.Memberwise.{same, shl, and, or, ◌⨾◌}
use Rattle.moves.proofs.Singles.{holds_preimage}
use Rattle.moves.proofs.grid.first_row_into.Goals as goal

pub returns : goal.returns
returns c = search (rules, holds_preimage first_row (and 0xff ⨾ or same (shl 8) ⨾ or same (shl 16) ⨾ or same (shl 32)) refl)
