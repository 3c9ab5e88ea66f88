use Rattle.std.proofs.Common.{rules}
use Rattle.std.proofs.lemmas.Bool.Decides.{same_from_decides}
use Rattle.record.proofs.Heights.{decides_high}
use Rattle.record.proofs.laying.is_too_high.Goals as goal

pub returns-clause-test : goal.returns-clause-test
returns-clause-test c = same_from_decides _ _ (search rules) (decides_high 32 c.args.d c.args.palette (search rules))
