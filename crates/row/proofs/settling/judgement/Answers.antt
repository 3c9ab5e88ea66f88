use Rattle.std.proofs.Common.{rules}
use Rattle.std.proofs.lemmas.Bool.{both_ways}
use Rattle.row.proofs.settling.judgement.Goals as goal

pub returns-then-is_possible-clause-stand : goal.returns-then-is_possible-clause-stand
returns-then-is_possible-clause-stand c = λ m ps allowed small lives some. (
  λ possible. search rules,
  λ none. absurd (none ((c.is_possible.ensures.possible m ps allowed small lives some).0 c.if-is_possible.true)),
)

pub returns-else-is_possible-clause-stand : goal.returns-else-is_possible-clause-stand
returns-else-is_possible-clause-stand c = λ m ps allowed small lives some. (
  λ possible. absurd (both_ways c.is_possible.result c.if-is_possible.false ((c.is_possible.ensures.possible m ps allowed small lives some).1 possible)),
  λ none. search rules,
)
