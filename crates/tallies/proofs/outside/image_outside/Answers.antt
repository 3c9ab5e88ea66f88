use Rattle.std.proofs.Common.{rules}
use Rattle.words.proofs.Membership.{some_member}
use Rattle.tallies.proofs.outside.image_outside.Goals as goal

pub returns-else-is_empty : goal.returns-else-is_empty
returns-else-is_empty c = let member = some_member 64 c.args.set (search rules) (search rules) in search rules
