-- The state of a processor as its users know it.
use Rattle.std.specs.Prelude.{Bool, List}
use Rattle.tables.specs.Contents.{rows_of}
use Rattle.rules.specs.Memory.{Memory}
use Rattle.rules.specs.Calls.{ProcessorState}
use Rattle.scanning.specs.Memories.{memory_in}
use Rattle.processor.specs.declared.parts.Processor.{Processor}

-- the table, the cells of the store, the flags and the wait records
abbrev pub state : {S : Type 0} → (cells : S → List Bool) → Processor S → ProcessorState
state cells p = record { table = rows_of p.table; memory = memory_in cells p.memory }

-- a state with the same table and another memory
abbrev pub remembers : ProcessorState → Memory → ProcessorState
remembers s m = record { table = s.table; memory = m }
