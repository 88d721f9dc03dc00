-- Lists of cells under a force-on and a force-off mask.
use Rattle.std.specs.Prelude.{◌≡◌, ℕ, Bool, true, false, cond, ◌&&◌, List, length, Some, None, Option, ◌==◌, slice_index_or}
use Rattle.tables.specs.declared.place.State.{State}
use Rattle.tables.specs.declared.place.State.TheVariants.{Off, On}
pub use Rattle.tables.specs.States.{opposite_of}
use Rattle.cells.specs.Tabulated.{tabulated}
use Rattle.cells.specs.Cells.{all_cells, cell_bytes, cleared, is_on}

-- no cell is in both masks
abbrev pub Apart : (on off : List Bool) → Type 0
Apart on off = (i : ℕ) → (slice_index_or on i false && slice_index_or off i false) ≡ false

-- a mask after a take: emptied by bytes of the right length
abbrev pub mask_taken : List Bool → List ℕ → List Bool
mask_taken mask bytes = cond (length bytes == cell_bytes) cleared mask

-- whether a cell is forced, and to what, by whether it is in the force-on mask and in the force-off mask
abbrev pub forced_to : Bool → Bool → Option State
forced_to true off = Some On
forced_to false true = Some Off
forced_to false false = None

-- what a cell reads: what it is forced to, else the controller's bit
abbrev pub forced_or : Option State → Bool → Bool
forced_or (Some state) own = is_on state
forced_or None own = own

-- the controller's cells under both masks
abbrev pub overlaid : List Bool → List Bool → List Bool → List Bool
overlaid on off own = tabulated all_cells (λ i. forced_or (forced_to (slice_index_or on i false) (slice_index_or off i false)) (slice_index_or own i false))
