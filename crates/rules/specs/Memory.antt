-- What a processor remembers beside its table: cells, flags and wait records.
use Rattle.std.specs.Prelude.{ℕ, ◌-◌, Bool, false, cond, List, replicate, Some, None, Option, slice_index_or, slice_set}
use Rattle.tables.specs.declared.place.Buffer.TheVariants.{Input, Output}
use Rattle.tables.specs.declared.place.Place.{Place}
use Rattle.tables.specs.declared.place.Place.TheVariants.{InputCell, OutputCell, Flag}
use Rattle.tables.specs.Limits.{last_flag, last_name, counted_to}
use Rattle.cells.specs.Cells.{cell_position, cleared}
use Rattle.rules.specs.declared.branch.Branch.{Branch}
use Rattle.rules.specs.declared.branch.Branch.TheVariants.{Neither}

-- ---- places

-- The cells, input buffer first, and the flags, each ON or OFF.
pub record Places : Type 0 where
  pub cells : List Bool
  pub flags : List Bool

-- Where a place is kept: at an index of the cells, or of the flags. A code past its buffer's end, and a number that is no
-- flag's, are kept nowhere.
pub data Location : Type 0 where
  in_cells : ℕ → Location
  in_flags : ℕ → Location
  nowhere : Location

-- where the cell at a position is kept
abbrev pub cell_location : Option ℕ → Location
cell_location None = nowhere
cell_location (Some i) = in_cells i

-- where a place is kept; flag 1 is the first
abbrev pub location : Place → Location
location (InputCell code) = cell_location (cell_position Input code)
location (OutputCell code) = cell_location (cell_position Output code)
location (Flag number) = cond (counted_to last_flag number) (in_flags (number - 1)) nowhere

-- what is kept at a location; nowhere is OFF
abbrev pub on_at : Places → Location → Bool
on_at ps (in_cells i) = slice_index_or ps.cells i false
on_at ps (in_flags i) = slice_index_or ps.flags i false
on_at ps nowhere = false

-- one location set ON or OFF; nothing is set nowhere
abbrev pub set_at : Location → Bool → Places → Places
set_at (in_cells i) on ps = record { cells = slice_set ps.cells i on; flags = ps.flags }
set_at (in_flags i) on ps = record { cells = ps.cells; flags = slice_set ps.flags i on }
set_at nowhere on ps = ps

-- whether a place is ON
abbrev pub place_on : Places → Place → Bool
place_on ps p = on_at ps (location p)

-- one place set ON or OFF, and no other
abbrev pub place_set : Place → Bool → Places → Places
place_set p on ps = set_at (location p) on ps

-- ---- wait records

-- The branch that a statement took last, and for how many scans it has taken it since it turned to it, in tenths.
pub record Wait : Type 0 where
  pub branch : Branch
  pub count : ℕ

-- no branch held
abbrev pub no_wait : Wait
no_wait = record { branch = Neither; count = 0 }

-- the record of a name among the hundred
abbrev pub wait_of : ℕ → List Wait → Wait
wait_of name ws = slice_index_or ws (name - 1) no_wait

-- the hundred, with the record of a name replaced
abbrev pub with_wait : ℕ → Wait → List Wait → List Wait
with_wait name w ws = slice_set ws (name - 1) w

-- ---- all of it

-- The places and the hundred wait records.
pub record Memory : Type 0 where
  pub places : Places
  pub waits : List Wait

-- all OFF, and no branch held
unfoldable pub blank : Memory
blank = record {
  places = record { cells = cleared; flags = replicate last_flag false };
  waits = replicate last_name no_wait;
}
