use Rattle.std.proofs.Common.{◌≡◌, ℕ, ◌<◌, arith, rules}
use Rattle.words.proofs.Walking.{gather_none, gather_value}
use Rattle.tallies.proofs.tally.Tally.image.Goals as goal

pub loop-s-init : goal.loop-s-init
loop-s-init g c =
    let F : ℕ → ℕ → Type 0 = λ s t. (g.Self.Tally.machine c.args.self.now).step s c.args.v c.args.w ≡ t in
    gather_none F c.args.set c.into_iter-s-iterator.result.rest (search rules)

pub loop-s-preserved : goal.loop-s-preserved
loop-s-preserved g c =
    let t = c.args.self.now in
    let step : ℕ → ℕ = λ s. (g.Self.Tally.machine t).step s c.args.v c.args.w in
    let is : step c.in-Some.s ≡ c.step.result = search rules in
    let small : c.step.result < 64 = omega (arith, is, g.met.Self.Tally.laws.steps t c.in-Some.s c.args.v c.args.w, g.met.Self.Tally.laws.few) in
    gather_value step c.args.set 64 _ _ _ _ _ _ c.in-Some.ensures.steps is small c.with-states.ensures c.loop-s.invariant
