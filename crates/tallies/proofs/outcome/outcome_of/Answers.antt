use Rattle.std.proofs.Common.{◌≡◌, ◌-◌, ◌<◌, length, take, drop, fold, rules}
use Rattle.std.specs.List.{zip}
use Rattle.std.proofs.lemmas.Iterator.{YieldsList-from_slice, YieldsList-from_zip}
use Rattle.std.proofs.lemmas.Iterator.Consumers.{fold_from_yields_List}
use Rattle.std.proofs.lemmas.List.{take_rest}
use Rattle.tallies.proofs.Reading.{state_pairs, stepped}
use Rattle.tallies.proofs.outcome.outcome_of.Goals as goal

pub returns : goal.returns
returns g c =
    let m = g.T.Tally.machine c.args.tally.now in
    let row = c.args.row.now in
    let rest = take (length row - 1) (drop 1 row) in
    let some : 0 < length row = search rules in
    let read : c.fold-state.result ≡ fold (stepped m) c.start.result (zip row rest) =
    fold_from_yields_List _ (stepped m) c.start.result c.fold-state.result c.fold-state.ensures.ran
    (YieldsList-from_zip (YieldsList-from_slice row cc) (YieldsList-from_slice rest cc)) (λ s p t q k. search rules) in
    cc (take_rest row 1, state_pairs m row some)
