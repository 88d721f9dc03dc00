use Rattle.cells.proofs.Frames.{taken_reads}
use Rattle.cells.proofs.readings.taken_frame_is_read.Goals as goal

pub returns-clause-from_bytes : goal.returns-clause-from_bytes
returns-clause-from_bytes g c =
    λ whole. rw (c.read.ensures.meaning, c.take.ensures.meaning)
    (taken_reads (g.S.CellStore.cells c.args.store.now) c.args.bytes.now c.args.buffer c.args.code whole)
