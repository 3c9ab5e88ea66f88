use Rattle.std.proofs.Common.{refl, rules}
use Rattle.moves.specs.Maps.{to_diagonal}
use Rattle.moves.proofs.Masks.{diagonal, left, not_left}
use Rattle.moves.proofs.Memberwise.{same, shl, and, or, ◌⨾◌}
use Rattle.moves.proofs.Singles.{holds_image}
use Rattle.moves.proofs.grid.to_diagonal.Goals as goal

pub returns : goal.returns
returns c = search (rules, holds_image to_diagonal (or (and not_left) (and left ⨾ or same (shl 1) ⨾ or same (shl 2) ⨾ or same (shl 4) ⨾ and diagonal)) refl)
