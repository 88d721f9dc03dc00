use Rattle.std.proofs.Common.{map}
use Rattle.tables.specs.Rows.{plan_row}
use Rattle.scanning.proofs.EnabledOnes.{FoundAbove}
use Rattle.scanning.proofs.enabling.enabled_names.Given as goal

abbrev pub invariant-loop-statement : goal.invariant-loop-statement
invariant-loop-statement l = FoundAbove (map plan_row l.plans) (record { plan = l.plan }) l.statement-items l.statement-index l.names
