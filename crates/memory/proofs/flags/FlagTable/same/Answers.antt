use Rattle.std.proofs.lemmas.Bool.Decides.{Decides-at}
use Rattle.memory.proofs.Alike.{flags_alike}
use Rattle.memory.proofs.flags.FlagTable.same.Goals as goal

pub returns : goal.returns
returns c = Decides-at _ _ c.eq.ensures (flags_alike _ _)
