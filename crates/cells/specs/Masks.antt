-- What the masks of a forcing store hold.
use Rattle.std.specs.Prelude.{◌≡◌, ℕ, Bool, false, not, List, Some, None, Option, slice_index_or}
use Rattle.tables.specs.declared.place.Buffer.{Buffer}
use Rattle.tables.specs.declared.place.State.{State}
use Rattle.cells.specs.declared.masks.Masks.{Masks}
use Rattle.cells.specs.Cells.{image, written, cell_position, at_position}
pub use Rattle.cells.specs.Overlays.{mask_taken, forced_to, forced_or, overlaid, opposite_of}

-- the cells that are forced ON
abbrev pub on_mask : Masks → List Bool
on_mask m = image m.on.bytes

-- the cells that are forced OFF
abbrev pub off_mask : Masks → List Bool
off_mask m = image m.off.bytes

-- masks with these cells
pub record Masked (m : Masks) (on off : List Bool) : Type 0 where
  pub forced_on : on_mask m ≡ on
  pub forced_off : off_mask m ≡ off

-- after a write the cell is in the mask of its state and not in the other, and no other cell's masks have changed
abbrev pub Forced : Masks → Buffer → ℕ → State → Masks → Type 0
Forced before buffer code state after =
    Masked after (written (on_mask before) buffer code state) (written (off_mask before) buffer code (opposite_of state))

-- exactly one mask has the cell at a position, if there is one
abbrev pub InOneMask : Masks → Option ℕ → Type 0
InOneMask m None = Unit {0}
InOneMask m (Some i) = slice_index_or (on_mask m) i false ≡ not (slice_index_or (off_mask m) i false)

-- whether a cell is forced, and to what, by its buffer and code
abbrev pub forced_state : Masks → Buffer → ℕ → Option State
forced_state m buffer code =
    forced_to (at_position (on_mask m) (cell_position buffer code)) (at_position (off_mask m) (cell_position buffer code))
