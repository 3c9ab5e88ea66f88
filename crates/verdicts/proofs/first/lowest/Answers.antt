use Rattle.std.proofs.Common.{rules}
use Rattle.verdicts.proofs.Seeking.{lowest_found}
use Rattle.verdicts.proofs.first.lowest.Goals as goal

pub returns : goal.returns
returns g c = search (rules, lowest_found 32 (λ s. s.rest) _ c.find.new.self c.find.result (goal.F-post g c.args.test) (λ x q called. search rules) (λ x q called. search rules) c.members.result c.find.ensures.ran)
