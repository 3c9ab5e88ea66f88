use Rattle.std.proofs.Common.{◌≡◌, ℕ, ◌+◌, ◌-◌, ◌∙◌, subst, arith}
use Rattle.words.specs.Sets.{HoldsEach}
use Rattle.layers.specs.Passes.{Reachable}
use Rattle.layers.specs.Rows.{Model, model}
use Rattle.layers.proofs.Passing.{stored, reach_more}
use Rattle.layers.proofs.forward.forward.Goals as goal

pub loop-i-preserved : goal.loop-i-preserved
loop-i-preserved g c = record {
  reached = λ p table.
      let m : Model = model p (g.T.Tally.machine c.args.tally.now) in
      let ps = c.args.palettes.now in
      let k : ℕ = c.loop-i.i in
      let before = c.loop-i.invariant.reached p table in
      let next = reach_more m ps (k - 1) k c.loop-i.layer c.advance-next.result c.args.neighbours.now.before (omega arith) (omega arith) table
      before.0 c.advance-next.ensures in
      let e : k ≡ k + 1 - 1 = omega arith in (
        subst (λ (q : ℕ). HoldsEach c.advance-next.result (Reachable m ps q)) e next,
        λ j l. stored c.store-in-loop-i.ensures (Reachable m ps) next j (λ other. before.1 j (omega arith)),
      );
  rest = λ q h. c.store-in-loop-i.ensures.above q (omega arith) ∙ c.loop-i.invariant.rest q h;
}

pub returns-clause-reached : goal.returns-clause-reached
returns-clause-reached g c p table i l = (c.loop-i.invariant.reached p table).1 i (omega arith)
