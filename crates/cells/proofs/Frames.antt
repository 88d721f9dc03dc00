-- Cells in the bytes of their buffer.
use Rattle.std.proofs.Common.{◌≡◌, ℕ, ◌+◌, ◌/◌, ◌%◌, ◌<◌, Bool, true, false, cond, ltb, List, length, Some, None, refl, arith}
use Rattle.std.proofs.lemmas.Bool.{eq-eqb}
use Rattle.tables.specs.declared.place.Buffer.{Buffer}
use Rattle.tables.specs.declared.place.Buffer.TheVariants.{Input, Output}
use Rattle.tables.specs.declared.place.State.{State}
use Rattle.tables.specs.declared.place.State.TheVariants.{Off}
use Rattle.cells.specs.Cells.{all_cells, cell_bytes, buffer_cells, first_cell, at_position, state_when, packed_cell, image, taken, held}
use Rattle.cells.specs.Readings.{within, first_byte, frame_state}
use Rattle.cells.proofs.Positions.{code_inside}
use Rattle.cells.proofs.Tables.{get_or_tabulated}

-- a buffer begins at a byte, so a cell's byte and bit are those of its code, from that byte on
first_whole : (buffer : Buffer) (code : ℕ)
    → ((first_cell buffer + code) / 8 ≡ first_byte buffer + code / 8) × ((first_cell buffer + code) % 8 ≡ code % 8)
first_whole Input code = (omega arith, omega arith)
first_whole Output code = (omega arith, omega arith)

packed_in_buffer : (bytes : List ℕ) (buffer : Buffer) (code : ℕ)
    → state_when (packed_cell bytes (first_cell buffer + code)) ≡ frame_state bytes buffer code
packed_in_buffer bytes buffer code =
    let w = first_whole buffer code in rw (w.0, w.1)

-- a cell of an image reads its bit of the bytes, and past the end OFF
reads_where : (t : Bool) (bytes : List ℕ) (i : ℕ) (s : State) → (t ≡ true → i < all_cells) → state_when (packed_cell bytes i) ≡ s
    → state_when (at_position (image bytes) (cond t (Some i) None)) ≡ cond t s Off
reads_where true bytes i s h e = let within = h refl in rw get_or_tabulated e
reads_where false bytes i s h e = refl

pub image_reads : (bytes : List ℕ) (buffer : Buffer) (code : ℕ)
    → held (image bytes) buffer code ≡ within buffer code (frame_state bytes buffer code)
image_reads bytes buffer code =
    reads_where (ltb code (buffer_cells buffer)) bytes (first_cell buffer + code) _ (code_inside buffer code) (packed_in_buffer bytes buffer code)

-- after a take of the right length each cell reads its bit of the bytes
pub taken_reads : (cells : List Bool) (bytes : List ℕ) (buffer : Buffer) (code : ℕ) → length bytes ≡ cell_bytes
    → held (taken cells bytes) buffer code ≡ within buffer code (frame_state bytes buffer code)
taken_reads cells bytes buffer code whole =
    rw (eq-eqb (length bytes) cell_bytes whole) (image_reads bytes buffer code)
