use Rattle.std.proofs.lemmas.Nat.Bits.{shr_and_one}
use Rattle.cells.specs.Bits.{bit}
use Rattle.cells.proofs.bits.test.Goals as goal

pub returns : goal.returns
unfolding bit
returns c = rw shr_and_one
