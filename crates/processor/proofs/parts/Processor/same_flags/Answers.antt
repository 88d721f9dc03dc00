use Rattle.std.proofs.lemmas.Bool.Decides.{Decides-at}
use Rattle.memory.proofs.Alike.{flags_alike}
use Rattle.processor.proofs.parts.Processor.same_flags.Goals as goal

pub returns : goal.returns
returns g c = Decides-at _ _ c.eq.ensures (flags_alike _ _)
