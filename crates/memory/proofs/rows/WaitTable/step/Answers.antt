use Rattle.std.proofs.Common.{arith}
use Rattle.std.proofs.lemmas.List.{get_or-map, map-set}
use Rattle.memory.proofs.rows.WaitTable.step.Goals as goal

pub returns-clause-waits : goal.returns-clause-waits
returns-clause-waits c = grind (arith, get_or-map, map-set)
