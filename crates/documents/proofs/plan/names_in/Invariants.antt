use Rattle.std.proofs.Common.{◌≡◌, map, take}
use Rattle.bounded.specs.Held.{held}
use Rattle.tables.specs.Rows.{name_number}
use Rattle.documents.proofs.plan.names_in.Given as goal

abbrev pub invariant-loop-byte : goal.invariant-loop-byte
invariant-loop-byte l = map name_number (held l.names) ≡ take l.byte-index l.bytes
