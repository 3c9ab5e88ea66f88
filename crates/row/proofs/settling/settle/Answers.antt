use Rattle.std.proofs.Common.{◌≡◌, ℕ, ◌*◌, false, ltb, length, refl, subst, arith, rules}
use Rattle.std.proofs.lemmas.List.{length-take-le}
use Rattle.std.proofs.lemmas.Bool.{le-ltb}
use Rattle.layers.specs.Rows.{Model, model}
use Rattle.layers.specs.Scratch.{Lives, SameFrom}
use Rattle.record.specs.Stands.{is_blank}
use Rattle.bare.specs.Settling.{parts_of}
use Rattle.row.proofs.settling.settle.Goals as goal

pub returns : goal.returns
returns g c =
    let a = c.args.row.now in
    let m : Model = model (g.R.NeighbourRule.pairs c.args.rule.now) (g.T.Tally.machine c.args.tally.now) in
    let lives : Lives m (parts_of a) a.current.results c.write_live.new.scratch = search rules in
    let wide : length a.current.palettes ≡ 60 = a.places in
    let parts : length (parts_of a) ≡ a.n = length-take-le a.n a.current.palettes (omega (arith, a.parts)) in
    let same : length c.write_live.new.scratch ≡ length c.args.scratch.now = search rules in
    let blank : is_blank a.current.stand ≡ false = search rules in
    let room : ltb (length c.args.scratch.now) (32 * a.n) ≡ false = le-ltb (length c.args.scratch.now) (32 * a.n) (omega (arith, lives.room, parts, same)) in
    let rest : SameFrom (32 * a.n) c.write_live.new.scratch c.args.scratch.now =
    subst (λ (n : ℕ). SameFrom (32 * n) c.write_live.new.scratch c.args.scratch.now) parts c.write_live.ensures.rest in
    record {
      reply = rw (blank, room) (c.strike.result, (refl, c.strike.ensures (g.R.NeighbourRule.pairs c.args.rule.now) lives));
      live = rw (blank, room) (lives, rest);
    }
