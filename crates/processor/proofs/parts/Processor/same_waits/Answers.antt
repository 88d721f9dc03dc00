use Rattle.std.proofs.lemmas.Bool.Decides.{Decides-at}
use Rattle.memory.proofs.Alike.{waits_alike}
use Rattle.processor.proofs.parts.Processor.same_waits.Goals as goal

pub returns : goal.returns
returns g c = Decides-at _ _ c.eq.ensures (waits_alike _ _)
