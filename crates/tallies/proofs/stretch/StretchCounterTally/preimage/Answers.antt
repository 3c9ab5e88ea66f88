use Rattle.std.proofs.Common.{◌≡◌, true, false, rules}
use Rattle.moves.specs.Maps.{one_up}
use Rattle.tallies.specs.Stretches.{stretch_machine}
use Rattle.tallies.proofs.Moving.{preimage_by, preimage_same, stretch_stays, stretch_rises}
use Rattle.tallies.proofs.stretch.StretchCounterTally.preimage.Goals as goal

pub returns-then-allows : goal.returns-then-allows
returns-then-allows g c =
    let C = g.C.NeighbourRule.pairs c.args.self.now.rule in
    let pair : C c.args.v c.args.w ≡ true = search rules in
    search (rules, preimage_by (stretch_machine C) c.args.v c.args.w (λ s. s), stretch_stays, preimage_same)

pub returns-else-allows : goal.returns-else-allows
returns-else-allows g c =
    let C = g.C.NeighbourRule.pairs c.args.self.now.rule in
    let pair : C c.args.v c.args.w ≡ false = search rules in
    search (rules, preimage_by (stretch_machine C) c.args.v c.args.w one_up, stretch_rises)
