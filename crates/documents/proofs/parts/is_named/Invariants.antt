use Rattle.std.proofs.Common.{◌≡◌, drop}
use Rattle.tables.specs.Lists.{member}
use Rattle.documents.specs.Reads.{names_of}
use Rattle.documents.proofs.parts.is_named.Given as goal

-- the name is among all where it is among those that are yet to come
abbrev pub invariant-loop-statement : goal.invariant-loop-statement
invariant-loop-statement l = member l.name.0 (names_of (drop l.statement-index l.statements)) ≡ member l.name.0 (names_of l.statements)
