use Rattle.std.proofs.Common.{replicate}
use Rattle.cells.specs.Cells.{all_cells, cell_bytes, packed_cell, cleared}
use Rattle.cells.proofs.Tables.{tabulated_none, no_cell}
use Rattle.cells.proofs.packed.PackedImage.new.Goals as goal

pub returns : goal.returns
unfolding cleared
returns c = tabulated_none all_cells (packed_cell (replicate cell_bytes 0)) (no_cell cell_bytes)
