use Rattle.std.proofs.Common.{arith}
use Rattle.words.proofs.Membership.{holds_zero}
use Rattle.layers.proofs.backward.ending_states.Goals as goal

pub loop-s-init : goal.loop-s-init
loop-s-init g c k = (λ i. absurd ((holds_zero k).0 i), λ t. absurd (omega (arith, t.0)))
