use Rattle.std.proofs.Common.{rules}
use Rattle.tallies.proofs.Running.{plateau_outcome}
use Rattle.tallies.proofs.plateau.PlateauCounter.longest_run_in.Goals as goal

pub returns : goal.returns
returns c =
    let xs = c.args.row.hatchings.now in
    let row = c.args.row.finished in
    let measured = plateau_outcome xs row in
    record { finished = row; result = search rules; longest = (measured.0, (measured.1.0, cc measured.1.1)) }
