-- The flags of a flag table.
use Rattle.std.specs.Prelude.{ℕ, ◌/◌, Bool, List, Some, None, Option}
use Rattle.tables.specs.Limits.{last_flag}
use Rattle.rules.specs.Memory.{Places, Location, in_flags, nowhere}
use Rattle.memory.specs.declared.flags.FlagTable.{FlagTable}

-- the flags, flag 1 first, true for ON
abbrev pub flags_in : FlagTable → List Bool
flags_in t = t.on

-- the places with these cells and the flags of a table
abbrev pub places_of : (cells : List Bool) → FlagTable → Places
places_of cells t = record { cells = cells; flags = flags_in t }

-- where the flag at a position is kept
abbrev pub flag_location : Option ℕ → Location
flag_location None = nowhere
flag_location (Some i) = in_flags i

-- the bytes that hold the flags, eight to a byte
abbrev pub flag_bytes : ℕ
flag_bytes = last_flag / 8
