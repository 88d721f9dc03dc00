use Rattle.std.proofs.Common.{◌≡◌, map, drop}
use Rattle.tables.specs.Rows.{TableRows, statement_row}
use Rattle.rules.specs.Scanning.{turns}
use Rattle.scanning.specs.EnabledNames.{EnabledBy}
use Rattle.scanning.specs.Memories.{memory_of}
use Rattle.scanning.proofs.turn.run_all.Given as goal

-- the turns still to take lead to where all of them lead
abbrev pub invariant-loop-statement : goal.invariant-loop-statement
invariant-loop-statement g l =
    (t : TableRows) → t.statements ≡ map statement_row l.statements → EnabledBy t l.frame l.enabled
    → turns t l.frame (map statement_row (drop l.statement-index l.statements)) (memory_of (g.S.CellStore.cells l.store) l.flags l.waits)
    ≡ turns t l.frame (map statement_row l.statements) (memory_of (g.S.CellStore.cells l.initial.store) l.initial.flags l.initial.waits)
