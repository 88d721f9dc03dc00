-- What a frame shows: cells, then numbers of two bytes.
use Rattle.std.specs.Prelude.{ℕ, ◌+◌, ◌*◌, Bool, List, length, take, drop, ◌==◌, slice_index}
use Rattle.tables.specs.declared.place.Buffer.{Buffer}
use Rattle.tables.specs.declared.number.Number.{Number}
use Rattle.tables.specs.declared.number.Number.TheVariants.{ActionPlan}
use Rattle.tables.specs.Numbers.{number_code}
use Rattle.cells.specs.Cells.{cell_bytes, image, cell_position, at_position}

-- the bytes of a frame
abbrev pub frame_bytes : ℕ
frame_bytes = 520

-- only so many bytes are a frame
abbrev pub is_frame : List ℕ → Bool
is_frame bytes = length bytes == frame_bytes

-- the cells that a frame shows, in the order of a store's
abbrev pub cells_shown : List ℕ → List Bool
cells_shown frame = image (take cell_bytes frame)

-- whether the cell of a buffer and a code is ON
abbrev pub cell_on : List Bool → Buffer → ℕ → Bool
cell_on cells buffer code = at_position cells (cell_position buffer code)

-- the number of a code among the bytes past the cells, the high byte first
abbrev pub number_at : List ℕ → ℕ → ℕ
number_at bytes code = 256 * slice_index bytes (2 * code) + slice_index bytes (2 * code + 1)

-- a number that a frame shows
unfoldable pub number_shown : List ℕ → Number → ℕ
number_shown frame number = number_at (drop cell_bytes frame) (number_code number)

-- What a scan reads of a frame besides the cells and numbers that statements test.
pub record Setting : Type 0 where
  -- the action plan in effect
  pub plan : ℕ

-- the setting that a frame shows
unfoldable pub setting : List ℕ → Setting
setting frame = record { plan = number_shown frame ActionPlan }
