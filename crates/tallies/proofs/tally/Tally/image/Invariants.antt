use Rattle.std.proofs.Common.{◌≡◌}
use Rattle.words.proofs.Walking.{Gathering}
use Rattle.tallies.proofs.tally.Tally.image.Given as goal

abbrev pub invariant-loop-s : goal.invariant-loop-s
invariant-loop-s g l = Gathering (λ s t. (g.Self.Tally.machine l.self).step s l.v l.w ≡ t) l.set l.s-iterator.rest l.states
