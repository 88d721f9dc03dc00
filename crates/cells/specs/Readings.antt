-- What reads answer after other operations.
use Rattle.std.specs.Prelude.{◌≡◌, ℕ, ◌+◌, ◌/◌, ◌%◌, cond, List, ◌≢◌, nat_lt, slice_index}
use Rattle.tables.specs.declared.place.Buffer.{Buffer}
use Rattle.tables.specs.declared.place.State.{State}
use Rattle.tables.specs.declared.place.State.TheVariants.{Off}
use Rattle.cells.specs.Bits.{bit}
use Rattle.cells.specs.Cells.{buffer_cells, first_cell, state_when}

-- a state where the buffer has a cell of that code, and OFF past its end
abbrev pub within : Buffer → ℕ → State → State
within buffer code state = cond (nat_lt code (buffer_cells buffer)) state Off

-- where a buffer's bytes begin
abbrev pub first_byte : Buffer → ℕ
first_byte buffer = first_cell buffer / 8

-- what cell bytes say of a code: bit `code mod 8`, lowest first, of byte `code div 8` of its buffer
abbrev pub frame_state : List ℕ → Buffer → ℕ → State
frame_state bytes buffer code = state_when (bit (slice_index bytes (first_byte buffer + code / 8)) (code % 8))

-- two cells are different: of different buffers, or of different codes
abbrev pub Different : Buffer → ℕ → Buffer → ℕ → Type 0
Different buffer code other_buffer other_code = buffer ≡ other_buffer → code ≢ other_code
