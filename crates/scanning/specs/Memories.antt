-- What a processor remembers: the cells of a store and a flag table, and a wait table.
use Rattle.std.specs.Prelude.{Bool, List}
use Rattle.rules.specs.Memory.{Places as PlacesMeant, Memory as MemoryMeant}
use Rattle.memory.specs.declared.flags.FlagTable.{FlagTable}
use Rattle.memory.specs.declared.rows.WaitTable.{WaitTable}
use Rattle.memory.specs.Flags.{places_of}
use Rattle.memory.specs.Waits.{waits_in}
use Rattle.scanning.specs.declared.places.Places.{Places}
use Rattle.scanning.specs.declared.turn.Memory.{Memory}

-- what they remember together
abbrev pub memory_of : (cells : List Bool) → FlagTable → WaitTable → MemoryMeant
memory_of cells flags waits = record { places = places_of cells flags; waits = waits_in waits }

-- the cells of the store, and the flags
abbrev pub places_in : {S : Type 0} → (cells : S → List Bool) → Places S → PlacesMeant
places_in cells p = places_of (cells p.store) p.flags

-- the places and the wait records
abbrev pub memory_in : {S : Type 0} → (cells : S → List Bool) → Memory S → MemoryMeant
memory_in cells m = memory_of (cells m.places.store) m.places.flags m.waits
