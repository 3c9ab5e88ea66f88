use Rattle.std.proofs.Common.{rules}
use Rattle.moves.specs.Maps.{first_row, row_down, to_diagonal}
use Rattle.tallies.specs.Plateaus.{plateau_machine}
use Rattle.tallies.proofs.Moving.{image_by, image_then, plateau_goes_on, plateau_begins}
use Rattle.tallies.proofs.plateau.PlateauCounterTally.image.Goals as goal

pub returns-then-v-w : goal.returns-then-v-w
returns-then-v-w c =
    search (rules, image_by plateau_machine c.args.v c.args.w (λ s. to_diagonal (row_down s)), plateau_goes_on, image_then row_down to_diagonal)

pub returns-else-v-w : goal.returns-else-v-w
returns-else-v-w c = search (rules, image_by plateau_machine c.args.v c.args.w first_row, plateau_begins)
