use Rattle.std.proofs.Common.{◌≡◌, ℕ, rules}
use Rattle.words.specs.Sets.{In}
use Rattle.words.proofs.Walking.{gather_none}
use Rattle.tallies.proofs.tally.Tally.preimage.Goals as goal

pub loop-s-init : goal.loop-s-init
loop-s-init g c =
    let F : ℕ → ℕ → Type 0 = λ s t. (t ≡ s) × In ((g.Self.Tally.machine c.args.self.now).step s c.args.v c.args.w) c.args.target in
    gather_none F c.args.set c.into_iter-s-iterator.result.rest (search rules)
