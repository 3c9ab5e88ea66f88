use Rattle.std.proofs.Common.{arith, rules}
use Rattle.words.specs.Sets.{Holds}
use Rattle.moves.specs.Maps.{Preimage, first_row, row_down, to_diagonal}
use Rattle.tallies.specs.Plateaus.{plateau_machine}
use Rattle.tallies.proofs.Moving.{preimage_by, preimage_then, plateau_goes_on, plateau_begins}
use Rattle.tallies.proofs.plateau.PlateauCounterTally.preimage.Goals as goal

pub returns-then-v-w : goal.returns-then-v-w
returns-then-v-w c =
    let moved : Holds c.row_down_into.result (Preimage (λ s. to_diagonal (row_down s)) c.args.target) =
    search (rules, preimage_then row_down to_diagonal (λ s. omega arith)) in
    search (rules, preimage_by plateau_machine c.args.v c.args.w (λ s. to_diagonal (row_down s)), plateau_goes_on)

pub returns-else-v-w : goal.returns-else-v-w
returns-else-v-w c = search (rules, preimage_by plateau_machine c.args.v c.args.w first_row, plateau_begins)
