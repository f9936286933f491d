-- The first chunk that is found has the length that was asked for.
use Rattle.std.proofs.lemmas.List.{length-take-le}
use Rattle.replay.proofs.buffers.Record+512.area.Goals as goal

pub returns : goal.returns
returns c =
    let h = rw c.unwrap.ensures at c.first_chunk.ensures.cases in
    rw h.same (length-take-le 72 _ h.enough)
