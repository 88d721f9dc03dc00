use Rattle.std.proofs.Common.{rules}
use Rattle.cells.specs.Cells.{cleared}
use Rattle.cells.proofs.Overlays.{overlaid_cleared}
use Rattle.cells.proofs.forcing.ForcingStoreCellStore.clear.Goals as goal

pub returns-clause-meaning : goal.returns-clause-meaning
unfolding cleared
returns-clause-meaning c =
    rw (c.clear-2.ensures.forced_on, c.clear-2.ensures.forced_off, c.clear.ensures.meaning) (overlaid_cleared cleared (search rules))
