use Rattle.std.proofs.Common.{rules}
use Rattle.tallies.proofs.Counting.{stretch_outcome, seqbin_exact}
use Rattle.tallies.proofs.stretch.StretchCounter.stretches_in.Goals as goal

pub returns : goal.returns
returns g c =
    let pairs = g.C.NeighbourRule.pairs c.args.self.now.rule in
    let xs = c.args.row.hatchings.now in
    let row = c.args.row.finished in
    let counted = stretch_outcome pairs xs row in
    let exact = seqbin_exact pairs xs row in
    record { finished = row; result = search rules; counts = cc; exact = λ short. cc (exact short) }
