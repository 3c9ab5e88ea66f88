use Rattle.std.proofs.Common.{◌≡◌}
use Rattle.words.specs.Sets.{In}
use Rattle.words.proofs.Walking.{Gathering}
use Rattle.tallies.proofs.tally.Tally.preimage.Given as goal

abbrev pub invariant-loop-s : goal.invariant-loop-s
invariant-loop-s g l =
    Gathering (λ s t. (t ≡ s) × In ((g.Self.Tally.machine l.self).step s l.v l.w) l.target) l.set l.s-iterator.rest l.states
