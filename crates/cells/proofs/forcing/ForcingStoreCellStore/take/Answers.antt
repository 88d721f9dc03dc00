use Rattle.std.proofs.Common.{length, eqb}
use Rattle.cells.specs.Cells.{all_cells, cell_bytes, image}
use Rattle.cells.specs.Tabulated.{length_tabulated}
use Rattle.cells.proofs.Overlays.{overlaid_taken}
use Rattle.cells.proofs.forcing.ForcingStoreCellStore.take.Goals as goal

pub returns-clause-meaning : goal.returns-clause-meaning
returns-clause-meaning c =
    rw (c.take-2.ensures.forced_on, c.take-2.ensures.forced_off, c.take.ensures.meaning)
    (overlaid_taken (eqb (length c.args.bytes.now) cell_bytes) _ _ _ (image c.args.bytes.now) (length_tabulated all_cells _))
