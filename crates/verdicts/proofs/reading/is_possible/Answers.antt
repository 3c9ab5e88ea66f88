use Rattle.std.proofs.Common.{ℕ, Decides, rules}
use Rattle.words.specs.Sets.{Holds}
use Rattle.verdicts.specs.Verdicts.{PartHas}
use Rattle.verdicts.proofs.Telling.{possible_of}
use Rattle.verdicts.proofs.reading.is_possible.Goals as goal

pub returns : goal.returns
returns c =
    let live = c.args.live.now in
    let states : Holds c.states_at.result (PartHas live 0) = search rules in
    let some : Decides c.has_state.result ((s : ℕ) × PartHas live 0 s) = (
      λ t. let x = c.has_state.ensures.0 t in (x.0, (states x.0).0 x.1),
      λ x. c.has_state.ensures.1 (x.0, (states x.0).1 x.1),
    ) in
    record { words = some; possible = λ m ps allowed small lives inside. possible_of m ps allowed live small lives c.has_state.result inside some }
