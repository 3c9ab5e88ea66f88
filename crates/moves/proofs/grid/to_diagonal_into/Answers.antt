use Rattle.std.proofs.Common.{refl, rules}
use Rattle.moves.specs.Maps.{to_diagonal}
use Rattle.moves.proofs.Masks.{diagonal, left, not_left}
use Rattle.moves.proofs.Memberwise.{same, shr, and, or, ◌⨾◌}
use Rattle.moves.proofs.Singles.{holds_preimage}
use Rattle.moves.proofs.grid.to_diagonal_into.Goals as goal

pub returns : goal.returns
returns c = search (rules, holds_preimage to_diagonal (or (and not_left) (and diagonal ⨾ or same (shr 1) ⨾ or same (shr 2) ⨾ or same (shr 4) ⨾ and left)) refl)
