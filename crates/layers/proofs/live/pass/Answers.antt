use Rattle.std.proofs.Common.{rules}
use Rattle.layers.specs.Rows.{model}
use Rattle.layers.proofs.Rows.{lives_of}
use Rattle.layers.proofs.live.pass.Goals as goal

pub returns-clause-live : goal.returns-clause-live
returns-clause-live g c =
    let problem = c.args.problem.now in
    let p = g.R.NeighbourRule.pairs problem.rule.now in
    let reached = c.forward.ensures.reached p c.neighbours_of-neighbours.ensures.before in
    let through = c.backward.ensures.through p c.neighbours_of-neighbours.ensures.after reached in
    lives_of (model p (g.T.Tally.machine problem.tally.now)) problem.palettes.now problem.allowed c.backward.new.scratch (search rules)
    (λ i inside. search (through i inside))
