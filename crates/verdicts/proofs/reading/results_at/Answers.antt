use Rattle.std.proofs.Common.{◌≡◌, ℕ, ◌<◌, sym, subst, arith, rules}
use Rattle.words.specs.Sets.{In, Holds}
use Rattle.words.proofs.Walking.{gather_none, gather_value, gather_all}
use Rattle.verdicts.specs.Verdicts.{PartHas}
use Rattle.tallies.specs.Machines.{Machine}
use Rattle.verdicts.proofs.Telling.{yields_of}
use Rattle.verdicts.proofs.reading.results_at.Goals as goal

pub loop-s-init : goal.loop-s-init
loop-s-init g c = gather_none _ c.into_iter-s-iterator.result.rest c.into_iter-s-iterator.result.rest (search rules)

pub loop-s-preserved : goal.loop-s-preserved
loop-s-preserved g c =
    let t = c.args.tally.now in
    let result : ℕ → ℕ = (g.T.Tally.machine t).result in
    let is : result c.in-Some.s ≡ c.result.result = search rules in
    let small : c.result.result < 64 = omega (arith, is, g.met.T.Tally.laws.results t c.in-Some.s) in
    gather_value result c.into_iter-s-iterator.result.rest 64 _ _ _ _ _ _ c.in-Some.ensures.steps is small c.with-results.ensures c.loop-s.invariant

pub returns : goal.returns
returns g c =
    let live = c.args.live.now in
    let k = g.T.Tally.machine c.args.tally.now in
    let all = gather_all _ c.into_iter-s-iterator.result.rest c.loop-s.s-iterator.rest c.loop-s.results c.in-None.ensures.steps c.loop-s.invariant in
    let is : c.into_iter-s-iterator.result.rest ≡ c.states_at.result = search rules in
    let states : Holds c.states_at.result (PartHas live c.args.part) = search rules in
    let results : Holds c.loop-s.results (λ r. (s : ℕ) × (PartHas live c.args.part s × (k.result s ≡ r))) = λ r. (
      λ i. let t = (all r).0 i in (t.0, ((states t.0).0 (subst (In t.0) is t.1.0), t.1.1)),
      λ t. (all r).1 (t.0, (subst (In t.0) (sym is) ((states t.0).1 t.1.0), t.1.1)),
    ) in
    record {
      words = results;
      yields = λ m ps allowed small lives same last. yields_of m ps allowed live small lives c.args.part c.loop-s.results last
          (subst (λ (q : Machine). Holds c.loop-s.results (λ r. (s : ℕ) × (PartHas live c.args.part s × (q.result s ≡ r)))) (sym same) results);
    }
