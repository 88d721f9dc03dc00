use Rattle.std.proofs.Common.{map, take}
use Rattle.writing.specs.Output.{Wrote}
use Rattle.writing.proofs.output.Output.put_names.Given as goal

abbrev pub invariant-loop-item : goal.invariant-loop-item
invariant-loop-item g l = Wrote l.initial.self (map g.T.Named.number (take l.item-index l.items)) l.self
