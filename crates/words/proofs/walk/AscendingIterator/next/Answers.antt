use Rattle.std.proofs.Common.{rules}
use Rattle.words.proofs.Membership.{less_without}
use Rattle.words.proofs.walk.AscendingIterator.next.Goals as goal

pub returns-clause-goes : goal.returns-clause-goes
returns-clause-goes g c =
    let set = g.W.WordSet.word c.args.self.now.rest in
    let rest = g.W.WordSet.word c.without-self.result in
    let low = c.in_ok-lowest.ensures.lowest in
    let less = less_without set rest c.in_ok-lowest.lowest low.1 c.without-self.ensures in
    search (rules, less)
