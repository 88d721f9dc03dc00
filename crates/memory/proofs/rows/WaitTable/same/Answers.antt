use Rattle.std.proofs.lemmas.Bool.Decides.{Decides-at}
use Rattle.memory.proofs.Alike.{waits_alike}
use Rattle.memory.proofs.rows.WaitTable.same.Goals as goal

pub returns : goal.returns
returns c = Decides-at _ _ c.eq.ensures (waits_alike _ _)
