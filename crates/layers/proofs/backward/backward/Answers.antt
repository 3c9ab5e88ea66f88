use Rattle.std.proofs.Common.{◌≡◌, ℕ, suc, ◌-◌, ◌^◌, ◌<◌, length, get_or, refl, ◌∙◌, subst, arith, rules}
use Rattle.words.specs.Sets.{HoldsEach}
use Rattle.layers.specs.Passes.{Reachable, Through}
use Rattle.layers.specs.Rows.{Model, model}
use Rattle.layers.proofs.Passing.{loaded, stored, stored_other, through_last, through_more, reachable_small, reachable_few}
use Rattle.layers.proofs.backward.backward.Goals as goal

pub loop-i-init : goal.loop-i-init
loop-i-init g c = record {
  through = λ p table reached.
      let t = c.args.tally.now in
      let m : Model = model p (g.T.Tally.machine t) in
      let ps = c.args.palettes.now in
      let allowed = c.args.allowed in
      let small : (j : ℕ) → get_or ps j 0 < 2 ^ 32 = λ j. (c.type_inv.palettes j).fits in
      let last : ℕ = length ps - 1 in
      let layer = loaded c.load.ensures (Reachable m ps last) (reachable_small m ps small last) (reached last (omega arith)) in
      let none : 0 ≡ length ps - suc last = omega arith in
      let live = subst (λ (d : ℕ). HoldsEach c.last_layer-live.result (Through m ps allowed d last)) none
      (through_last m ps allowed last g.T.Tally.STATES c.ending_states-ending.result c.load.result c.last_layer-live.result layer
      (reachable_few m ps g.T.Tally.STATES (g.met.T.Tally.laws.starts t) (g.met.T.Tally.laws.steps t) last) c.ending_states-ending.ensures
      (search rules)) in (
        live,
        λ j l. stored_other c.store.ensures (Reachable m ps j) j (omega arith) (reached j (omega arith)),
        λ j l h. stored c.store.ensures (λ q. Through m ps allowed (length ps - suc q) q) live j (λ other. absurd (omega arith)),
      );
  rest = λ k h. refl;
}

pub loop-i-preserved : goal.loop-i-preserved
loop-i-preserved g c = record {
  through = λ p table reached.
      let m : Model = model p (g.T.Tally.machine c.args.tally.now) in
      let ps = c.args.palettes.now in
      let allowed = c.args.allowed in
      let small : (j : ℕ) → get_or ps j 0 < 2 ^ 32 = λ j. (c.type_inv.palettes j).fits in
      let k : ℕ = c.loop-i.i in
      let i : ℕ = k - 1 in
      let before = c.loop-i.invariant.through p table reached in
      let layer = loaded c.load-layer.ensures (Reachable m ps i) (reachable_small m ps small i) (before.1 i (omega arith)) in
      let retained = through_more m ps allowed i k (length ps - suc k) (length ps - suc i) c.load-layer.result c.loop-i.live c.retain-retained.result
      c.args.neighbours.now.after (omega arith) (omega arith) (omega arith) table layer before.0 (search rules) in (
        retained,
        λ j l. stored_other c.store-in-loop-i.ensures (Reachable m ps j) j (omega arith) (before.1 j (omega arith)),
        λ j l h. stored c.store-in-loop-i.ensures (λ q. Through m ps allowed (length ps - suc q) q) retained j (λ other. before.2 j (omega arith) h),
      );
  rest = λ q h. c.store-in-loop-i.ensures.above q (omega arith) ∙ c.loop-i.invariant.rest q h;
}
