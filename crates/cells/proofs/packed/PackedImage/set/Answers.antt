use Rattle.std.proofs.Common.{rules, set, ◌/◌}
use Rattle.cells.specs.Cells.{all_cells, packed_cell}
use Rattle.cells.proofs.Tables.{tabulated_set}
use Rattle.cells.proofs.packed.PackedImage.set.Goals as goal

pub returns : goal.returns
returns c =
    let index = c.index-index in
    let old = c.args.self.now.bytes in
    let e = tabulated_set all_cells (packed_cell old) (packed_cell (set old (index.result / 8) c.put.result)) index.result c.from.result index.ensures.inside (λ j h. search rules) in
    cc
