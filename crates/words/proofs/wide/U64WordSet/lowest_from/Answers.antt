use Rattle.std.proofs.Common.{rules}
use Rattle.words.proofs.Membership.{lowest_above, lowest_inside, none_above, none_past}
use Rattle.words.proofs.wide.U64WordSet.lowest_from.Goals as goal

pub returns-in_err-above-clause-lowest : goal.returns-in_err-above-clause-lowest
returns-in_err-above-clause-lowest c =
    let none = none_past 64 c.args.self c.args.from (search rules) (search rules) in
    search (rules, none)

pub returns-then-above-eq0 : goal.returns-then-above-eq0
returns-then-above-eq0 c = search (rules, none_above)

pub returns : goal.returns
returns c = record { lowest = search (rules, lowest_above 64); inside = search (rules, lowest_inside 64) }
