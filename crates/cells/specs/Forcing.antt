-- What a forcing store holds, and what its functions make of it.
use Rattle.std.specs.Prelude.{◌≡◌, ℕ, Bool, List}
use Rattle.tables.specs.declared.place.Buffer.{Buffer}
use Rattle.tables.specs.declared.place.State.{State}
use Rattle.cells.specs.declared.forcing.ForcingStore.{ForcingStore}
use Rattle.cells.specs.Cells.{image, cleared, taken, is_on, cell_position, at_position}
use Rattle.cells.specs.Masks.{on_mask, off_mask, Masked, Forced, InOneMask, mask_taken, forced_state, forced_or, overlaid}

-- the controller's cells
abbrev pub own_cells : ForcingStore → List Bool
own_cells s = image s.controller.bytes

-- what the store means: the controller's cells under the masks
abbrev pub forcing_cells : ForcingStore → List Bool
forcing_cells s = overlaid (on_mask s.masks) (off_mask s.masks) (own_cells s)

-- no cell is ON, and none is forced
pub record Emptied (s : ForcingStore) : Type 0 where
  pub controller : own_cells s ≡ cleared
  pub masks : Masked s.masks cleared cleared

-- after a take, the controller's cells are those of the bytes and no cell is forced; bytes of another length change nothing
pub record Taken (s : ForcingStore) (bytes : List ℕ) (t : ForcingStore) : Type 0 where
  pub controller : own_cells t ≡ taken (own_cells s) bytes
  pub masks : Masked t.masks (mask_taken (on_mask s.masks) bytes) (mask_taken (off_mask s.masks) bytes)

-- after a write, the masks of that one cell have changed, exactly one has it, and none of the controller's cells has changed
pub record Overridden (s : ForcingStore) (buffer : Buffer) (code : ℕ) (state : State) (t : ForcingStore) : Type 0 where
  pub controller : own_cells t ≡ own_cells s
  pub masks : Forced s.masks buffer code state t.masks
  pub one_mask : InOneMask t.masks (cell_position buffer code)

-- a cell reads what the masks say, else the controller's bit
abbrev pub Seen : ForcingStore → Buffer → ℕ → State → Type 0
Seen s buffer code state = is_on state ≡ forced_or (forced_state s.masks buffer code) (at_position (own_cells s) (cell_position buffer code))
