use Rattle.std.proofs.Common.{rules}
use Rattle.words.proofs.Sizes.{size_below}
use Rattle.words.proofs.narrow.AnyWordSet.count.Goals as goal

pub returns : goal.returns
returns g c =
    let below = size_below g.W.WordWithin64.width c.wide.result 64 c.wide.ensures.inside g.met.W.WordWithin64.few in
    rw (← c.wide.ensures.same, ← below) (search rules)
