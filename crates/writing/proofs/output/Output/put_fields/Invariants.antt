use Rattle.std.proofs.Common.{take}
use Rattle.writing.specs.Bytes.{fields_bytes}
use Rattle.writing.specs.Output.{Wrote}
use Rattle.writing.proofs.output.Output.put_fields.Given as goal

abbrev pub invariant-loop-item : goal.invariant-loop-item
invariant-loop-item g l = Wrote l.initial.self (fields_bytes (g.F.Coded.coded l.field) g.T.Body.body (take l.item-index l.items)) l.self
