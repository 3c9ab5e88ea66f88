use Rattle.std.proofs.Common.{◌≡◌, ℕ, ◌+◌, ◌-◌, ◌<◌, length, get_or, set, None, sym, refl, ◌∙◌, subst, subst₂, arith, rules}
use Rattle.std.proofs.lemmas.List.{get_or-set_other}
use Rattle.words.proofs.Bits.{in_below}
use Rattle.layers.specs.Rows.{Model, model}
use Rattle.verdicts.specs.Verdicts.{Fills}
use Rattle.verdicts.proofs.Telling.{palettes_of}
use Rattle.verdicts.proofs.Walks.{Begun, first_of, walk_first, walk_next, walk_none, walk_on}
use Rattle.verdicts.proofs.first.walk.Goals as goal

pub returns-in_err-v : goal.returns-in_err-v
returns-in_err-v g c allowed lives =
    let m : Model = model (g.R.NeighbourRule.pairs c.args.rule.now) (g.T.Tally.machine c.args.tally.now) in
    let ps = c.args.palettes.now in
    let strip = c.args.strip.now in
    let is_first : c.in_ok-palette.palette.now ≡ get_or c.args.palettes.now 0 0 = search rules in
    let some : 0 < length ps = search rules in
    let none : c.from_residual-in_err-v.result ≡ None = search rules in
    subst (Fills m ps allowed strip strip) (sym none)
    (walk_none m ps allowed c.args.live.now (palettes_of ps (λ j. (c.type_inv.palettes j).fits)) lives some (rw is_first at c.in_err-v.ensures), refl)

pub overflow_cast-strip : goal.overflow_cast-strip
overflow_cast-strip g c =
    let is_first : c.in_ok-palette.palette.now ≡ get_or c.args.palettes.now 0 0 = search rules in
    let small : c.in_ok-v.v < 32 =
    in_below 32 (get_or c.args.palettes.now 0 0) c.in_ok-v.v (c.type_inv.palettes 0).fits (rw is_first at c.in_ok-v.ensures.1.0) in
    search rules

pub loop-i-init : goal.loop-i-init
loop-i-init g c = (
  λ allowed lives.
      let m : Model = model (g.R.NeighbourRule.pairs c.args.rule.now) (g.T.Tally.machine c.args.tally.now) in
      let ps = c.args.palettes.now in
      let strip = c.args.strip.now in
      let v = c.in_ok-v.v in
      let is_first : c.in_ok-palette.palette.now ≡ get_or c.args.palettes.now 0 0 = search rules in
      let some : 0 < length ps = search rules in
      let is : m.machine.start v ≡ c.start-s.result = search rules in
      subst (Begun m ps allowed (set strip 0 v) 0 v) is
      (walk_first m ps allowed c.args.live.now (palettes_of ps (λ j. (c.type_inv.palettes j).fits)) lives strip v c.requires.bytes some (rw is_first at c.in_ok-v.ensures)),
  λ k h. refl,
)

pub returns-in_err-w : goal.returns-in_err-w
returns-in_err-w g c allowed lives =
    let m : Model = model (g.R.NeighbourRule.pairs c.args.rule.now) (g.T.Tally.machine c.args.tally.now) in
    let ps = c.args.palettes.now in
    absurd (walk_on m ps allowed c.args.live.now (palettes_of ps (λ j. (c.type_inv.palettes j).fits)) lives c.loop-i.strip (c.loop-i.i - 1) c.loop-i.i c.loop-i.v c.loop-i.s
    (omega arith) (omega arith) (c.loop-i.invariant.0 allowed lives) c.in_err-w.ensures)

pub loop-i-preserved : goal.loop-i-preserved
loop-i-preserved g c = (
  λ allowed lives.
      let m : Model = model (g.R.NeighbourRule.pairs c.args.rule.now) (g.T.Tally.machine c.args.tally.now) in
      let ps = c.args.palettes.now in
      let strip = c.loop-i.strip in
      let i = c.loop-i.i in
      let w = c.in_ok-w.w in
      let e : i ≡ i + 1 - 1 = omega arith in
      let is : m.machine.step c.loop-i.s c.loop-i.v w ≡ c.step-s.result = search rules in
      subst₂ (λ (q s : ℕ). Begun m ps allowed (set strip i w) q w s) e is
      (walk_next m ps allowed c.args.live.now (palettes_of ps (λ j. (c.type_inv.palettes j).fits)) lives strip (i - 1) i c.loop-i.v c.loop-i.s w (omega arith) (omega arith)
      (c.loop-i.invariant.0 allowed lives) c.in_ok-w.ensures),
  λ k h. get_or-set_other c.loop-i.strip c.loop-i.i k c.in_ok-w.w 0 (omega arith) ∙ c.loop-i.invariant.1 k (omega arith),
)

pub returns : goal.returns
returns g c allowed lives =
    let m : Model = model (g.R.NeighbourRule.pairs c.args.rule.now) (g.T.Tally.machine c.args.tally.now) in
    let ps = c.args.palettes.now in
    let some : 0 < length ps = search rules in
    let first = first_of m ps allowed c.loop-i.strip (c.loop-i.i - 1) c.loop-i.v c.loop-i.s (omega arith) (c.loop-i.invariant.0 allowed lives) in (
      first.0,
      c.result.ensures ∙ sym first.1,
      λ k h. c.loop-i.invariant.1 k (omega arith) ∙ get_or-set_other c.args.strip.now 0 k c.in_ok-v.v 0 (omega arith),
    )
