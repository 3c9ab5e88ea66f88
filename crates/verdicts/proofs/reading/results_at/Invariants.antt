use Rattle.std.proofs.Common.{◌≡◌}
use Rattle.words.proofs.Walking.{Gathering}
use Rattle.verdicts.proofs.reading.results_at.Given as goal

abbrev pub invariant-loop-s : goal.invariant-loop-s
invariant-loop-s g l = Gathering (λ s k. (g.T.Tally.machine l.tally).result s ≡ k) l.initial.s-iterator.rest l.s-iterator.rest l.results
