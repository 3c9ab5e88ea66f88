use Rattle.std.proofs.Common.{rules}
use Rattle.verdicts.proofs.first.write_first.Goals as goal

pub returns : goal.returns
returns g c =
    let live = c.in_ok-write_live.ensures.live in
    let fills = c.walk.ensures c.args.problem.now.allowed live in
    search rules
