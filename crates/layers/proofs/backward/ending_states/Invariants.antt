use Rattle.std.proofs.Common.{◌<◌}
use Rattle.words.specs.Sets.{In, Holds}
use Rattle.layers.proofs.backward.ending_states.Given as goal

-- those below s
abbrev pub invariant-loop-s : goal.invariant-loop-s
invariant-loop-s g l = Holds l.ending (λ k. (k < l.s) × In ((g.T.Tally.machine l.tally).result k) l.allowed)
