use Rattle.memory.proofs.Packing.{FirstBits}
use Rattle.memory.proofs.flags.packed.Given as goal

abbrev pub invariant-loop-k : goal.invariant-loop-k
invariant-loop-k l = FirstBits l.flags l.k l.byte
