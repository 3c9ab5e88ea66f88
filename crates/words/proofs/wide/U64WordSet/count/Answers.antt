use Rattle.std.proofs.Common.{rules}
use Rattle.words.proofs.Sizes.{ones_size}
use Rattle.words.proofs.wide.U64WordSet.count.Goals as goal

pub returns : goal.returns
returns c = search (rules, ones_size 64)
