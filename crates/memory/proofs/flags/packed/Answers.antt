use Rattle.std.proofs.Common.{refl, arith}
use Rattle.memory.proofs.Packing.{no_bits, bits_more}
use Rattle.memory.proofs.flags.packed.Goals as goal

pub loop-k-init : goal.loop-k-init
loop-k-init c = no_bits _

pub loop-k-preserved : goal.loop-k-preserved
loop-k-preserved c = rw c.from.ensures (bits_more _ _ _ _ (omega arith) refl c.loop-k.invariant)
