use Rattle.std.proofs.Common.{◌≡◌, ◌<◌, ◌/◌, length, slice_index_or, [], sym, subst, arith, rules}
use Rattle.words.specs.Sets.{In}
use Rattle.layers.specs.Scratch.{IsLoaded}
use Rattle.layers.proofs.Chunks.{chunk_loaded}
use Rattle.verdicts.proofs.reading.words_at.Goals as goal

pub returns-in-Some-clause-words : goal.returns-in-Some-clause-words
returns-in-Some-clause-words c =
    let live = c.args.live.now in
    let i = c.args.part in
    let words = c.in-Some.words.now in
    let inside : i < length live / 32 = search rules in
    let is : words ≡ slice_index_or c.as_chunks.result.0.now i [] = search rules in
    let load : IsLoaded i live words = subst (IsLoaded i live) (sym is) (chunk_loaded live _ i c.as_chunks.ensures.front inside) in
    λ v s. (
      λ t. let small : v < 32 = omega (arith, t.0, load.size) in (small, (omega (arith, inside), subst (In s) (load.same v small) t.1)),
      λ t. (omega (arith, t.0, load.size), subst (In s) (sym (load.same v t.0)) t.1.1),
    )
