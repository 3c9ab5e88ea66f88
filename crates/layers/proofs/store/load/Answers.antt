use Rattle.std.proofs.Common.{arith, rules}
use Rattle.layers.proofs.Chunks.{chunk_loaded}
use Rattle.layers.proofs.store.load.Goals as goal

pub returns : goal.returns
returns c =
    let layer = chunk_loaded c.args.scratch.now _ c.args.i c.as_chunks.ensures.front (omega (arith, c.requires)) in
    search (rules, layer)
