-- The cells of a store, and what each operation makes of them. A store's cells are one list, true for ON: those of the input
-- buffer by their codes, then those of the output buffer.
use Rattle.std.specs.Prelude.{ℕ, ◌+◌, ◌/◌, ◌%◌, Bool, false, cond, List, length, replicate, Some, None, Option, ◌==◌, nat_lt, slice_index, slice_index_or, slice_set}
use Rattle.tables.specs.Limits.{input_cells, output_cells}
use Rattle.tables.specs.declared.place.Buffer.{Buffer}
use Rattle.tables.specs.declared.place.Buffer.TheVariants.{Input, Output}
use Rattle.tables.specs.declared.place.State.{State}
pub use Rattle.tables.specs.States.{is_on, state_when}
use Rattle.cells.specs.Bits.{bit}
use Rattle.cells.specs.Tabulated.{tabulated}

-- the cells of both buffers
abbrev pub all_cells : ℕ
all_cells = input_cells + output_cells

-- the bytes that hold them, eight cells to a byte
abbrev pub cell_bytes : ℕ
cell_bytes = all_cells / 8

-- how many cells a buffer has
abbrev pub buffer_cells : Buffer → ℕ
buffer_cells Input = input_cells
buffer_cells Output = output_cells

-- where a buffer's cells begin
abbrev pub first_cell : Buffer → ℕ
first_cell Input = 0
first_cell Output = input_cells

-- where the cell of a code stands; a code past its buffer's end has no cell
abbrev pub cell_position : Buffer → ℕ → Option ℕ
cell_position buffer code = cond (nat_lt code (buffer_cells buffer)) (Some (first_cell buffer + code)) None

-- what stands at a position; no position is OFF
abbrev pub at_position : List Bool → Option ℕ → Bool
at_position cells None = false
at_position cells (Some i) = slice_index_or cells i false

-- the cells with one of them set; at no position nothing is set
abbrev pub set_position : List Bool → Option ℕ → Bool → List Bool
set_position cells None on = cells
set_position cells (Some i) on = slice_set cells i on

-- the cell at a place of packed bytes: eight to a byte, the first in the lowest bit
abbrev pub packed_cell : List ℕ → ℕ → Bool
packed_cell bytes i = bit (slice_index bytes (i / 8)) (i % 8)

-- all cells of packed bytes
abbrev pub image : List ℕ → List Bool
image bytes = tabulated all_cells (packed_cell bytes)

-- after a clear, all are OFF
unfoldable pub cleared : List Bool
cleared = replicate all_cells false

-- after a take, the cells are those of the bytes; bytes of another length change nothing
abbrev pub taken : List Bool → List ℕ → List Bool
taken cells bytes = cond (length bytes == cell_bytes) (image bytes) cells

-- what a read answers
abbrev pub held : List Bool → Buffer → ℕ → State
held cells buffer code = state_when (at_position cells (cell_position buffer code))

-- after a write, that one cell has the state, and every other what it had
abbrev pub written : List Bool → Buffer → ℕ → State → List Bool
written cells buffer code state = set_position cells (cell_position buffer code) (is_on state)
